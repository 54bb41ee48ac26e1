use Rattle.std.proofs.Common.{arith, rules, ◌≡◌, ◌≢◌, ◌<◌, ◌≤◌, ◌∙◌, ℕ, ◌+◌, ◌*◌, [], length, refl, subst, sym, ap, get_or}
use Rattle.cm_spec.specs.Built.{graph_of}
use Rattle.cm_spec.specs.Rounds.{rest_of}
use Rattle.cm_io.specs.PassFaults.{HasPassed}
use Rattle.cm_witness_gather.specs.Cores.{EqualKeysMeet, keys_at}
use Rattle.cm_witness_gather.specs.Pairs.{pairs}
use Rattle.cm_algo_seeds.specs.Fails.{HasBuildCause, ShowsCore, build_fault_of}
use Rattle.cm_algo_seeds.specs.CoredLaws.{cause_on, fails_pass, handed_on, none_found, pass_fails, refused}
use Rattle.cm_algo_seeds.specs.EqualKeysLaws.{equal_keys_meet, none_works}
use Rattle.cm_algo_seeds.specs.OneSeedLaws.{no_keys, steps_both, steps_one}
use Rattle.cm_algo.proofs.builds.build.Goals as goal

pub returns-in_err-built-clause-steps : goal.returns-in_err-built-clause-steps
returns-in_err-built-clause-steps g c = λ told is. steps_one g.row.K (length told.keys) (length told.keys) _ _ _ (c.build_first.ensures.steps told is) refl c.requires.some

pub returns-in-Ok-clause-made : goal.returns-in-Ok-clause-made
returns-in-Ok-clause-made g c = rw c.in-Ok.is at c.in_ok-built.ensures.made

pub returns-in-Ok-clause-first : goal.returns-in-Ok-clause-first
returns-in-Ok-clause-first g c = rw c.in-Ok.is at c.in_ok-built.ensures.first

pub returns-in-Ok-clause-steps : goal.returns-in-Ok-clause-steps
returns-in-Ok-clause-steps g c = λ told is. steps_one g.row.K (length told.keys) (length told.keys) _ _ _ (c.build_first.ensures.steps told is) refl c.requires.some

pub certify-requires : goal.certify-requires
certify-requires g c =
    let left = rw c.in-Err.is at c.in_ok-built.ensures.left in (
      omega arith,
      (
        rw c.in-Err.is at c.in_ok-built.ensures.peeled,
        λ told is. subst (EqualKeysMeet told.keys) (sym (left told (sym c.build_first.ensures.told ∙ is)).is) (equal_keys_meet (g.S.Scheme.rule c.args.scheme.now) told.keys c.args.c (get_or c.args.seeds.now 0 0)),
      ),
    )

pub returns-in_err-certificate-in-Err-clause-told : goal.returns-in_err-certificate-in-Err-clause-told
returns-in_err-certificate-in-Err-clause-told g c = c.certify.ensures.reads.told ∙ c.build_first.ensures.told

pub returns-in_err-certificate-in-Err-clause-fault : goal.returns-in_err-certificate-in-Err-clause-fault
returns-in_err-certificate-in-Err-clause-fault g c =
    let fault = c.in_err-certificate-in-Err.field-0.0 in
    let left = rw c.in-Err.is at c.in_ok-built.ensures.left in
    handed_on c.from_residual-in_err-certificate-in-Err.result (build_fault_of fault) _ c.from_residual-in_err-certificate-in-Err.ensures.1
    (λ told is. fails_pass (g.S.Scheme.rule c.args.scheme.now) told c.args.c c.args.seeds.now _ fault ((left told is).many) (c.in_err-certificate-in-Err.ensures.reads.fault told (c.build_first.ensures.told ∙ is)))

pub returns-in_err-certificate-in-Err-clause-cause : goal.returns-in_err-certificate-in-Err-clause-cause
returns-in_err-certificate-in-Err-clause-cause g c =
    let P = g.P.KeyPass in
    let fault = c.in_err-certificate-in-Err.field-0.0 in
    subst (λ (before : ℕ). HasBuildCause before (P.faults c.certify.new.keys) c.from_residual-in_err-certificate-in-Err.result) c.in_ok-built.ensures.cause
    (cause_on _ _ (P.faults c.certify.new.keys) c.from_residual-in_err-certificate-in-Err.result fault c.from_residual-in_err-certificate-in-Err.ensures.1 c.in_err-certificate-in-Err.ensures.reads.cause)

pub returns-in_err-certificate-in-Err-clause-form : goal.returns-in_err-certificate-in-Err-clause-form
returns-in_err-certificate-in-Err-clause-form g c =
    let P = g.P.KeyPass in
    let fault = c.in_err-certificate-in-Err.field-0.0 in
    let many = rw c.in-Err.is at c.in_ok-built.ensures.long in
    let counted = rw c.in-Err.is at c.in_ok-built.ensures.passed in
    handed_on c.from_residual-in_err-certificate-in-Err.result (build_fault_of fault) _ c.from_residual-in_err-certificate-in-Err.ensures.1
    (pass_fails P c.certify.new.keys _ _ _ fault many.0 counted c.in_err-certificate-in-Err.ensures.reads.failed c.in_err-certificate-in-Err.ensures.reads.changed)

pub returns-in_err-certificate-in-Err-clause-steps : goal.returns-in_err-certificate-in-Err-clause-steps
returns-in_err-certificate-in-Err-clause-steps g c = λ told is. steps_one g.row.K (length told.keys) (length told.keys) _ _ _ (c.build_first.ensures.steps told is) refl c.requires.some

pub returns-in_err-certificate-in-Err-clause-early : goal.returns-in_err-certificate-in-Err-clause-early
returns-in_err-certificate-in-Err-clause-early g c =
    let fault = c.in_err-certificate-in-Err.field-0.0 in
    handed_on c.from_residual-in_err-certificate-in-Err.result (build_fault_of fault) _ c.from_residual-in_err-certificate-in-Err.ensures.1 (λ found. absurd (none_found fault found))

pub returns-then-not-is_empty-clause-told : goal.returns-then-not-is_empty-clause-told
returns-then-not-is_empty-clause-told g c = c.certify.ensures.reads.told ∙ c.build_first.ensures.told

pub returns-then-not-is_empty-clause-cause : goal.returns-then-not-is_empty-clause-cause
returns-then-not-is_empty-clause-cause g c = c.in_ok-certificate-in-Err.ensures.reads.cause ∙ c.in_ok-built.ensures.cause

pub returns-then-not-is_empty-clause-fault : goal.returns-then-not-is_empty-clause-fault
returns-then-not-is_empty-clause-fault g c = λ told is.
    let r = g.S.Scheme.rule c.args.scheme.now in
    let left = rw c.in-Err.is at c.in_ok-built.ensures.left in
    let many = rw c.in-Err.is at c.in_ok-built.ensures.long in
    let was = left told is in
    let seed : ℕ = get_or c.args.seeds.now 0 0 in
    let made = c.in_ok-certificate-in-Err.certificate in
    let shown : ShowsCore r told.keys c.args.c seed made = c.in_ok-certificate-in-Err.ensures.shows told (c.build_first.ensures.told ∙ is) c.args.c was.is in
    let some : pairs (keys_at told.keys (rest_of (graph_of r told.keys c.args.c seed))) ≢ [] = λ nil.
    let none : made.equal.items ≡ [] = shown.equal ∙ nil in
    let long : 0 < length made.equal.items = search rules in
    omega (arith, long, ap length none) in
    refused r told c.args.c c.args.seeds.now made (omega (arith, was.many, many.0)) was.ended (λ j within. none_works r told.keys c.args.c seed some (get_or c.args.seeds.now j 0)) shown

pub returns-then-not-is_empty-clause-form : goal.returns-then-not-is_empty-clause-form
returns-then-not-is_empty-clause-form g c = record { failed = tt; numbers = tt; counted = tt; certificate = c.in_ok-certificate-in-Err.ensures.form }

pub returns-then-not-is_empty-clause-steps : goal.returns-then-not-is_empty-clause-steps
returns-then-not-is_empty-clause-steps g c = λ told is. steps_one g.row.K (length told.keys) (length told.keys) _ _ _ (c.build_first.ensures.steps told is) refl c.requires.some

pub returns-then-not-is_empty-clause-early : goal.returns-then-not-is_empty-clause-early
returns-then-not-is_empty-clause-early g c = λ found told is. c.build_first.ensures.steps told is

pub build_later-requires-clause-many : goal.build_later-requires-clause-many
build_later-requires-clause-many g c = let many = rw c.in-Err.is at c.in_ok-built.ensures.long in
    (omega (arith, c.len-m.ensures.count, many.0), omega (arith, c.len-m.ensures.count, many.1))

pub build_later-requires-clause-ratio : goal.build_later-requires-clause-ratio
build_later-requires-clause-ratio g c = c.requires.ratio

pub build_later-requires-clause-some : goal.build_later-requires-clause-some
build_later-requires-clause-some g c = c.requires.some

pub build_later-requires-clause-left : goal.build_later-requires-clause-left
build_later-requires-clause-left g c = λ told is.
    let left = rw c.in-Err.is at c.in_ok-built.ensures.left in
    (left told (sym (c.certify.ensures.reads.told ∙ c.build_first.ensures.told) ∙ is)).left

pub returns-in_err-later-in-Err-clause-told : goal.returns-in_err-later-in-Err-clause-told
returns-in_err-later-in-Err-clause-told g c = c.build_later.ensures.told ∙ (c.certify.ensures.reads.told ∙ c.build_first.ensures.told)

pub returns-in_err-later-in-Err-clause-fault : goal.returns-in_err-later-in-Err-clause-fault
returns-in_err-later-in-Err-clause-fault g c =
    let fault = c.in_err-later-in-Err.field-0.0 in
    let left = rw c.in-Err.is at c.in_ok-built.ensures.left in
    handed_on c.from_residual-in_err-later-in-Err.result (build_fault_of fault) _ c.from_residual-in_err-later-in-Err.ensures.1
    (λ told is. fails_pass (g.S.Scheme.rule c.args.scheme.now) told c.args.c c.args.seeds.now _ fault (c.len-m.ensures.count ∙ (left told is).many) (c.in_err-later-in-Err.ensures.fault told (c.certify.ensures.reads.told ∙ (c.build_first.ensures.told ∙ is))))

pub returns-in_err-later-in-Err-clause-cause : goal.returns-in_err-later-in-Err-clause-cause
returns-in_err-later-in-Err-clause-cause g c =
    let P = g.P.KeyPass in
    let fault = c.in_err-later-in-Err.field-0.0 in
    subst (λ (before : ℕ). HasBuildCause before (P.faults c.build_later.new.keys) c.from_residual-in_err-later-in-Err.result) (c.in_ok-certificate-in-Err.ensures.reads.cause ∙ c.in_ok-built.ensures.cause)
    (cause_on _ _ (P.faults c.build_later.new.keys) c.from_residual-in_err-later-in-Err.result fault c.from_residual-in_err-later-in-Err.ensures.1 c.in_err-later-in-Err.ensures.cause)

pub returns-in_err-later-in-Err-clause-form : goal.returns-in_err-later-in-Err-clause-form
returns-in_err-later-in-Err-clause-form g c =
    let P = g.P.KeyPass in
    let fault = c.in_err-later-in-Err.field-0.0 in
    let many = rw c.in-Err.is at c.in_ok-built.ensures.long in
    let counted = rw c.in-Err.is at c.in_ok-built.ensures.passed in
    handed_on c.from_residual-in_err-later-in-Err.result (build_fault_of fault) _ c.from_residual-in_err-later-in-Err.ensures.1
    (pass_fails P c.build_later.new.keys c.len-m.result _ _ fault (omega (arith, c.len-m.ensures.count, many.0)) (subst (λ (m : ℕ). HasPassed P.at_end P.place m) (sym c.len-m.ensures.count) counted) c.in_err-later-in-Err.ensures.failed c.in_err-later-in-Err.ensures.changed)

pub returns-in_err-later-in-Err-clause-steps : goal.returns-in_err-later-in-Err-clause-steps
returns-in_err-later-in-Err-clause-steps g c = λ told is.
    let left = rw c.in-Err.is at c.in_ok-built.ensures.left in
    steps_both g.row.K c.len-m.result (length told.keys) c.args.steps.now _ _ _ (c.len-m.ensures.count ∙ (left told is).many) (c.build_first.ensures.steps told is) c.build_later.ensures.steps

pub returns-in_err-later-in-Err-clause-early : goal.returns-in_err-later-in-Err-clause-early
returns-in_err-later-in-Err-clause-early g c =
    let fault = c.in_err-later-in-Err.field-0.0 in
    handed_on c.from_residual-in_err-later-in-Err.result (build_fault_of fault) _ c.from_residual-in_err-later-in-Err.ensures.1 (λ found. absurd (none_found fault found))

pub returns-in-Some-clause-told : goal.returns-in-Some-clause-told
returns-in-Some-clause-told g c = c.build_later.ensures.told ∙ (c.certify.ensures.reads.told ∙ c.build_first.ensures.told)

pub returns-in-Some-clause-cause : goal.returns-in-Some-clause-cause
returns-in-Some-clause-cause g c = c.in_ok-later-in-Err.ensures.cause ∙ (c.in_ok-certificate-in-Err.ensures.reads.cause ∙ c.in_ok-built.ensures.cause)

pub returns-in-Some-clause-made : goal.returns-in-Some-clause-made
returns-in-Some-clause-made g c = rw c.in-Some.is at c.in_ok-later-in-Err.ensures.made

pub returns-in-Some-clause-first : goal.returns-in-Some-clause-first
returns-in-Some-clause-first g c = λ told is.
    let left = rw c.in-Err.is at c.in_ok-built.ensures.left in
    let made = rw c.in-Some.is at c.in_ok-later-in-Err.ensures.first in
    let same : c.len-m.result ≡ length told.keys = c.len-m.ensures.count ∙ (left told is).many in
    ((left told is).ended, made c.args.steps.now (subst (λ (m : ℕ). c.build_first.new.steps ≤ c.args.steps.now + 8 * (g.row.K * m)) (sym same) (c.build_first.ensures.steps told is)) told (c.certify.ensures.reads.told ∙ (c.build_first.ensures.told ∙ is)))

pub returns-in-Some-clause-steps : goal.returns-in-Some-clause-steps
returns-in-Some-clause-steps g c = λ told is.
    let left = rw c.in-Err.is at c.in_ok-built.ensures.left in
    steps_both g.row.K c.len-m.result (length told.keys) c.args.steps.now _ _ _ (c.len-m.ensures.count ∙ (left told is).many) (c.build_first.ensures.steps told is) c.build_later.ensures.steps

pub returns-in-None-clause-told : goal.returns-in-None-clause-told
returns-in-None-clause-told g c = c.build_later.ensures.told ∙ (c.certify.ensures.reads.told ∙ c.build_first.ensures.told)

pub returns-in-None-clause-cause : goal.returns-in-None-clause-cause
returns-in-None-clause-cause g c = c.in_ok-later-in-Err.ensures.cause ∙ (c.in_ok-certificate-in-Err.ensures.reads.cause ∙ c.in_ok-built.ensures.cause)

pub returns-in-None-clause-fault : goal.returns-in-None-clause-fault
returns-in-None-clause-fault g c = λ told is.
    let left = rw c.in-Err.is at c.in_ok-built.ensures.left in
    let many = rw c.in-Err.is at c.in_ok-built.ensures.long in
    let was = left told is in
    let none = rw c.in-None.is at c.in_ok-later-in-Err.ensures.none in
    refused (g.S.Scheme.rule c.args.scheme.now) told c.args.c c.args.seeds.now c.in_ok-certificate-in-Err.certificate (omega (arith, was.many, many.0)) was.ended (none told (c.certify.ensures.reads.told ∙ (c.build_first.ensures.told ∙ is)))
    (c.in_ok-certificate-in-Err.ensures.shows told (c.build_first.ensures.told ∙ is) c.args.c was.is)

pub returns-in-None-clause-form : goal.returns-in-None-clause-form
returns-in-None-clause-form g c = record { failed = tt; numbers = tt; counted = tt; certificate = c.in_ok-certificate-in-Err.ensures.form }

pub returns-in-None-clause-steps : goal.returns-in-None-clause-steps
returns-in-None-clause-steps g c = λ told is.
    let left = rw c.in-Err.is at c.in_ok-built.ensures.left in
    steps_both g.row.K c.len-m.result (length told.keys) c.args.steps.now _ _ _ (c.len-m.ensures.count ∙ (left told is).many) (c.build_first.ensures.steps told is) c.build_later.ensures.steps

pub returns-in-None-clause-early : goal.returns-in-None-clause-early
returns-in-None-clause-early g c = λ found. absurd (found (no_keys c.in_ok-certificate-in-Err.certificate.equal.items (search rules)))
