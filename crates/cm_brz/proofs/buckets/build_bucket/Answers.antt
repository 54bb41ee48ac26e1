use Rattle.std.proofs.Common.{arith, length, None, refl}
use Rattle.cm_brz.proofs.Pushes.{bucket_made, cored_in}
use Rattle.cm_brz.proofs.buckets.build_bucket.Goals as goal

pub returns-in-Ok-clause-many : goal.returns-in-Ok-clause-many
returns-in-Ok-clause-many g c = (c.in-Ok.ensures.first (record { keys = c.args.held.now.keys; fault = None }) refl).1.many

pub returns-in-Ok-clause-made : goal.returns-in-Ok-clause-made
returns-in-Ok-clause-made g c =
    let built = rw c.c.ensures.ratio at (c.in-Ok.ensures.first (record { keys = c.args.held.now.keys; fault = None }) refl).1 in
    bucket_made c.args.held.now.keys c.args.parts.now.ratio c.args.seeds.now c.in-Ok.built.m c.in-Ok.built.seed _ _ _ _ c.requires.keys built

pub returns-in-Ok-clause-first : goal.returns-in-Ok-clause-first
returns-in-Ok-clause-first g c =
    let built = rw c.c.ensures.ratio at (c.in-Ok.ensures.first (record { keys = c.args.held.now.keys; fault = None }) refl).1 in
    (built.place, built.first)

pub returns-in-Ok-clause-steps : goal.returns-in-Ok-clause-steps
returns-in-Ok-clause-steps g c = omega (arith, c.build_with.ensures.steps (record { keys = c.args.held.now.keys; fault = None }) refl)

pub returns-in-Err-Memory-clause-steps : goal.returns-in-Err-Memory-clause-steps
returns-in-Err-Memory-clause-steps g c = omega (arith, c.build_with.ensures.steps (record { keys = c.args.held.now.keys; fault = None }) refl)

pub returns-in-Err-Cored-clause-steps : goal.returns-in-Err-Cored-clause-steps
returns-in-Err-Cored-clause-steps g c = omega (arith, c.build_with.ensures.steps (record { keys = c.args.held.now.keys; fault = None }) refl)

pub returns-in-Err-Cored-clause-fault : goal.returns-in-Err-Cored-clause-fault
returns-in-Err-Cored-clause-fault g c =
    let form = (rw c.in-Err-Cored.field-0-is at c.in-Err-Cored.ensures.form).certificate in
    let fails = rw (c.in-Err-Cored.field-0-is, c.c.ensures.ratio) at c.in-Err-Cored.ensures.fault in
    let shown = rw (c.split.ensures.split, c.len.ensures.len) at c.in_bucket.ensures.place in
    cored_in (record { keys = c.args.held.now.keys; fault = None }) c.args.parts.now.ratio c.args.seeds.now (record { split = c.args.parts.now.split; bucket = length c.args.parts.now.buckets }) _ c.in_bucket.result c.in_bucket.ensures.algorithm c.in_bucket.ensures.seed shown c.in_bucket.ensures.edges c.in_bucket.ensures.equal form (fails (record { keys = c.args.held.now.keys; fault = None }) refl)
