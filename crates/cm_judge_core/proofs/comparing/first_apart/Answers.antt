use Rattle.std.proofs.Common.{◌≡◌, ◌∙◌, ◌<◌, ℕ, List, ap, arith, get_or, length, sym, Some}
use Rattle.cm_judge_verdict.specs.Verdicts.{least}
use Rattle.cm_judge_core.proofs.Merging.{differ_pair_at, equal_pair_at, match_pair_at, pair_or, real_pair_at, same_lines}
use Rattle.cm_judge_core.proofs.comparing.first_apart.Goals as goal
use Rattle.cm_judge_core.proofs.comparing.first_apart.Goals.{then-pair-shown-via-else-pair-shown+then-pair-shown-2, then-pair-shown-via-then-pair-shown}
use Rattle.cm_witness_gather.specs.declared.certificate.Pair.{Pair}

pub returns-then-i-equal : goal.returns-then-i-equal
returns-then-i-equal c = record { apart = λ rise rises. sym (ap least (c.loop-i.invariant.left rise rises) ∙ real_pair_at c.args.real.now c.args.equal.now c.loop-i.i rise c.loop-i-test.true (omega (arith, c.if-i-equal.true))) }

pub returns-then-pair-shown : goal.returns-then-pair-shown
returns-then-pair-shown c =
    let real : List Pair = c.args.real.now in
    let equal : List Pair = c.args.equal.now in
    let i : ℕ = c.loop-i.i in
    let more : i < length equal = omega (arith, c.loop-i.invariant.equal_within, c.if-i-equal.false) in
    let ne : get_or real i pair_or ≡ get_or equal i pair_or → ⊥ = λ e. elim c.then-pair-shown.branch [
      | then-pair-shown-via-then-pair-shown w ↦ w.if-pair-shown.true (ap (λ (p : Pair). p.first) e)
      | then-pair-shown-via-else-pair-shown+then-pair-shown-2 w ↦ w.if-pair-shown-2.true (ap (λ (p : Pair). p.again) e)
    ] in
    record { apart = λ rise rises. ap (λ n. Some n) c.min.ensures ∙ sym (ap least (c.loop-i.invariant.left rise rises) ∙ differ_pair_at real equal i rise rises c.loop-i-test.true more ne) }

pub loop-i-preserved : goal.loop-i-preserved
loop-i-preserved c =
    let real : List Pair = c.args.real.now in
    let equal : List Pair = c.args.equal.now in
    let i : ℕ = c.loop-i.i in
    let more : i < length equal = omega (arith, c.loop-i.invariant.equal_within, c.if-i-equal.false) in
    record {
      real_within = omega arith;
      equal_within = omega arith;
      left = λ rise rises. c.loop-i.invariant.left rise rises ∙ match_pair_at real equal i rise rises c.loop-i-test.true more (same_lines (get_or real i pair_or) (get_or equal i pair_or) c.if-pair-shown.false c.if-pair-shown-2.false);
    }

pub returns : goal.returns
returns c =
    let more : c.loop-i.i < length c.args.equal.now = omega (arith, c.loop-i.invariant.equal_within, c.if-i-equal-2.false) in
    record { apart = λ rise rises. sym (ap least (c.loop-i.invariant.left rise rises) ∙ equal_pair_at c.args.real.now c.args.equal.now c.loop-i.i rises c.loop-i-test.false more) }
