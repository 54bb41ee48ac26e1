use Rattle.std.proofs.Common.{◌≡◌, ◌≤◌, ◌-◌, drop, length}
use Rattle.cm_judge_verdict.specs.Rising.{RisesBy}
use Rattle.cm_judge_verdict.specs.Verdicts.{lines_apart}
use Rattle.cm_judge_core.proofs.comparing.first_apart.Given as goal

abbrev pub invariant-loop-i : goal.invariant-loop-i
invariant-loop-i l = record {
  real_within : l.i ≤ length l.real;
  equal_within : l.i ≤ length l.equal;
  left : RisesBy (λ p. p.again) 0 l.real → RisesBy (λ p. p.again) 0 l.equal → lines_apart l.real l.equal ≡ lines_apart (drop l.i l.real) (drop l.i l.equal);
}

abbrev pub decreases-loop-i : goal.decreases-loop-i
decreases-loop-i l = length l.real - l.i
