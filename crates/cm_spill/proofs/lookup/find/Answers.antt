use Rattle.std.proofs.Common.{◌∙◌, ◌<◌, arith, get_or, length, refl, subst, sym, inl, inr, [], ℕ, Bool, Ok}
use Rattle.std.proofs.lemmas.Bool.{cases_eq}
use Rattle.std.proofs.lemmas.List.Elements.{All-set}
use Rattle.cm_spill.specs.Reading.{AreLeft, Finds, IsPassed, RunLeft}
use Rattle.cm_spill.specs.Reads.{IsReady}
use Rattle.cm_spill.proofs.Leaving.{finds_run_fault}
use Rattle.cm_spill.proofs.Standing.{all_still, passed_next, passed_stays, still_set}
use Rattle.cm_spill.proofs.Zipping.{zip_at, zip_long, zip_set}
use Rattle.cm_spill.proofs.lookup.find.Goals as goal

pub returns-in-Ok-true-clause-left : goal.returns-in-Ok-true-clause-left
returns-in-Ok-true-clause-left g c = λ x told left all.
    let inv = c.loop-i.invariant in
    let i = c.loop-i.i in
    let within : i < length c.loop-i.runs = omega (arith, c.loop-i-test.true, c.loop-i.auto.runs) in
    let e : RunLeft = get_or c.loop-i.runs i c.index-runs-i.result in
    let was = (inv.left x told left all).0 in
    let here : AreLeft x e (get_or left i []) = zip_at (AreLeft x) c.loop-i.runs left i c.index-runs-i.result [] was within in
    zip_set (AreLeft x) c.loop-i.runs left i c.is_at.new.self [] was (c.in-Ok-true.ensures.left x (inv.told ∙ told) (get_or left i []) here)

pub returns-in-Ok-true-clause-finds : goal.returns-in-Ok-true-clause-finds
returns-in-Ok-true-clause-finds g c = λ x told left all.
    let inv = c.loop-i.invariant in
    let i = c.loop-i.i in
    let within : i < length c.loop-i.runs = omega (arith, c.loop-i-test.true, c.loop-i.auto.runs) in
    let e : RunLeft = get_or c.loop-i.runs i c.index-runs-i.result in
    let was = inv.left x told left all in (
      c.loop-i.auto.i,
      was.1,
      λ d.
          let here : AreLeft x e (get_or left i d) = zip_at (AreLeft x) c.loop-i.runs left i c.index-runs-i.result d was.0 within in
          subst (λ (b : Bool). Finds c.args.bucket c.args.least (get_or left i d) (Ok b)) c.in-Ok-true.field-0-test (c.in-Ok-true.ensures.finds x (inv.told ∙ told) (get_or left i d) here),
    )

pub returns-in-Err-clause-finds : goal.returns-in-Err-clause-finds
returns-in-Err-clause-finds g c = λ x told left all.
    let inv = c.loop-i.invariant in
    let i = c.loop-i.i in
    let within : i < length c.loop-i.runs = omega (arith, c.loop-i-test.true, c.loop-i.auto.runs) in
    let e : RunLeft = get_or c.loop-i.runs i c.index-runs-i.result in
    let was = inv.left x told left all in
    let inside : i < length left = omega (arith, zip_long (AreLeft x) c.loop-i.runs left was.0, within) in
    finds_run_fault c.args.bucket c.args.least c.args.at.now i left c.in-Err.fault c.loop-i.auto.i inside was.1 (λ d.
    let here : AreLeft x e (get_or left i d) = zip_at (AreLeft x) c.loop-i.runs left i c.index-runs-i.result d was.0 within in
    c.in-Err.ensures.finds x (inv.told ∙ told) (get_or left i d) here)

pub loop-i-init : goal.loop-i-init
loop-i-init g c = record {
  told = refl;
  quiet = refl;
  ready = c.requires.ready;
  passed = c.requires.passed;
  still = all_still c.args.runs.now;
  left = λ x told left all. (all, λ i d low high. absurd (omega (arith, low, high)));
}

pub returns-in-Ok-true-clause-still : goal.returns-in-Ok-true-clause-still
returns-in-Ok-true-clause-still g c =
    let inside : c.loop-i.i < length c.loop-i.runs = omega (arith, c.loop-i-test.true, c.loop-i.auto.runs) in
    still_set c.loop-i.runs c.args.runs.now c.loop-i.i c.is_at.new.self c.index-runs-i.result c.loop-i.invariant.still inside c.in-Ok-true.ensures.still

pub returns-in-Ok-true-clause-passed : goal.returns-in-Ok-true-clause-passed
returns-in-Ok-true-clause-passed g c = passed_stays c.args.bucket c.loop-i.i c.loop-i.i c.loop-i.runs c.is_at.new.self (omega arith) c.loop-i.invariant.passed

pub returns-in-Err-clause-still : goal.returns-in-Err-clause-still
returns-in-Err-clause-still g c =
    let inside : c.loop-i.i < length c.loop-i.runs = omega (arith, c.loop-i-test.true, c.loop-i.auto.runs) in
    still_set c.loop-i.runs c.args.runs.now c.loop-i.i c.is_at.new.self c.index-runs-i.result c.loop-i.invariant.still inside c.in-Err.ensures.still

pub returns-in-Err-clause-passed : goal.returns-in-Err-clause-passed
returns-in-Err-clause-passed g c = passed_stays c.args.bucket c.loop-i.i c.loop-i.i c.loop-i.runs c.is_at.new.self (omega arith) c.loop-i.invariant.passed

pub loop-i-preserved : goal.loop-i-preserved
loop-i-preserved g c =
    let inv = c.loop-i.invariant in
    let i = c.loop-i.i in
    let within : i < length c.loop-i.runs = omega (arith, c.loop-i-test.true, c.loop-i.auto.runs) in
    let e : RunLeft = get_or c.loop-i.runs i c.index-runs-i.result in
    let ready : IsReady e = inv.ready i c.index-runs-i.result within in
    record {
      told = c.in-Ok-false.ensures.told ∙ inv.told;
      quiet = c.in-Ok-false.ensures.cause ∙ inv.quiet;
      passed = passed_next c.args.bucket i c.loop-i.runs c.is_at.new.self within inv.passed (c.in-Ok-false.ensures.passed c.in-Ok-false.field-0-test);
      still = still_set c.loop-i.runs c.args.runs.now i c.is_at.new.self c.index-runs-i.result inv.still within c.in-Ok-false.ensures.still;
      ready = All-set IsReady c.loop-i.runs i c.is_at.new.self (omega (arith, c.in-Ok-false.ensures.room, ready.0), c.in-Ok-false.ensures.within) inv.ready;
      left = λ x told left all.
          let was = inv.left x told left all in
          let here : AreLeft x e (get_or left i []) = zip_at (AreLeft x) c.loop-i.runs left i c.index-runs-i.result [] was.0 within in (
            zip_set (AreLeft x) c.loop-i.runs left i c.is_at.new.self [] was.0 (c.in-Ok-false.ensures.left x (inv.told ∙ told) (get_or left i []) here),
            λ k d low high. elim (cases_eq k i) [
              | inl same ↦
                  let at : AreLeft x e (get_or left i d) = zip_at (AreLeft x) c.loop-i.runs left i c.index-runs-i.result d was.0 within in
                  let passed : IsPassed c.args.bucket (get_or left i d) = subst (λ (b : Bool). Finds c.args.bucket c.args.least (get_or left i d) (Ok b)) c.in-Ok-false.field-0-test (c.in-Ok-false.ensures.finds x (inv.told ∙ told) (get_or left i d) at) in
                  subst (λ (n : ℕ). IsPassed c.args.bucket (get_or left n d)) (sym same) passed
              | inr other ↦ was.1 k d low (omega (arith, high, other))
            ],
          );
    }

pub returns-clause-finds : goal.returns-clause-finds
returns-clause-finds g c = λ x told left all i d low inside.
    let was = c.loop-i.invariant.left x told left all in
    was.1 i d low (omega (arith, inside, c.loop-i-test.false, zip_long (AreLeft x) c.args.runs.now left all))
