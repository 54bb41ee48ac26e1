use Rattle.std.proofs.Common.{arith, ◌≡◌, ◌∙◌, ◌≤◌, ℕ, List, [], length, Option, None, Some, true, is_some, refl, ap}
use Rattle.cm_brz_func.specs.Functions.{bucket_count}
use Rattle.cm_tool_builds.proofs.Builds.{BrzLaws, brz_cause, brz_fails, brz_from}
use Rattle.cm_tool_builds.proofs.functions.brz_by.Goals as goal

pub returns-in-Ok-built-clause-made : goal.returns-in-Ok-built-clause-made
returns-in-Ok-built-clause-made g c = λ files is told known.
    let plan = c.args.plan.now in
    let function = c.in-Ok-built.function in
    let built = rw c.in-Ok-built.is at (c.brz-built.ensures.made [] (c.in-Ok.ensures.told files is)) in
    let made = built told known in
    let laws = c.keys_determine_results.ensures in
    brz_from told plan.c plan.b c.args.seeds.now function made.0 c.buckets-buckets.ensures.valid made.1
    (laws.function told.keys plan.c plan.b c.args.seeds.now function made.1) (laws.none told.keys plan.c plan.b c.args.seeds.now function made.1)

pub returns-clause-fault : goal.returns-clause-fault
returns-clause-fault g c = λ files is told known.
    let plan = c.args.plan.now in
    let k : ℕ = bucket_count (length told.keys) plan.b in
    let seeds = c.args.seeds.now in
    let width = c.requires.plan.width c.requires.by in
    let wide : 1 ≤ plan.b = omega (arith, width.0) in
    let laws : BrzLaws told.keys k plan.c seeds = record {
      some = λ j low. c.keys_determine_results.ensures.some (length told.keys) plan.b j wide low;
      cored = λ made of. c.keys_determine_results.ensures.cored told.keys k plan.c seeds made c.requires.seeds of;
      cored_shown = c.keys_determine_results.ensures.cored_shown told.keys k plan.c seeds;
      overfull_shown = c.keys_determine_results.ensures.overfull_shown told.keys k seeds;
      all = c.keys_determine_results.ensures.all told.keys k seeds;
    } in
    let empty = c.in-Ok.ensures.told files is in
    let fails = rw c.in-Err.is at (c.brz-built.ensures.fault [] empty) in
    let undamaged = rw c.in-Err.is at (c.brz-built.ensures.undamaged [] empty) in
    let form = rw c.in-Err.is at c.brz-built.ensures.form in
    rw c.fault_of_brz.ensures.fault (brz_fails told plan.c plan.b seeds c.in-Err.fault laws (fails told known) form undamaged)

-- what is known as soon as something else is
known_as : (x : Option (List ℕ)) → is_some x ≡ true → (bytes : List ℕ) × (x ≡ Some bytes)
known_as None known = absurd (cc)
known_as (Some bytes) known = (bytes, refl)

pub returns-in-Ok-built-clause-spilled : goal.returns-in-Ok-built-clause-spilled
returns-in-Ok-built-clause-spilled g c = λ files is told known.
    let bytes = known_as _ (c.brz-built.ensures.known ∙ ap is_some (c.in-Ok.ensures.told files is)) in
    let puts = rw c.in-Ok-built.is at c.brz-built.ensures.spilled in
    (bytes.0, c.give_back.ensures.spilled files (c.spill.ensures.files ∙ is) ∙ bytes.1, puts bytes.0 bytes.1 told known)

pub returns-clause-cause : goal.returns-clause-cause
returns-clause-cause g c =
    let keys = rw c.in-Err.is at c.brz-built.ensures.keys_cause in
    let spill = rw c.in-Err.is at c.brz-built.ensures.spill_cause in
    rw c.fault_of_brz.ensures.fault (brz_cause c.in-Err.fault _ _ _ _ _ _ _ keys spill c.in-Ok.ensures.fresh c.give_back.ensures.cause c.in-Ok.ensures.cause)
