use Rattle.std.proofs.Common.{◌≡◌, ◌≤◌, ◌-◌, drop, length}
use Rattle.cm_judge_verdict.specs.Verdicts.{lines_other}
use Rattle.cm_judge_core.proofs.comparing.first_other.Given as goal

abbrev pub invariant-loop-i : goal.invariant-loop-i
invariant-loop-i l = record {
  within : l.i ≤ length l.edges;
  left : lines_other l.own l.edges ≡ lines_other (drop l.i l.own) (drop l.i l.edges);
}

abbrev pub decreases-loop-i : goal.decreases-loop-i
decreases-loop-i l = length l.edges - l.i
