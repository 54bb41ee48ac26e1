use Rattle.std.proofs.Common.{◌≡◌, ◌≤◌, ◌-◌, drop, length}
use Rattle.cm_judge_verdict.specs.Rising.{RisesBy}
use Rattle.cm_judge_verdict.specs.Verdicts.{lines_lacking}
use Rattle.cm_judge_core.proofs.comparing.first_missing.Given as goal

abbrev pub invariant-loop-j : goal.invariant-loop-j
invariant-loop-j l = record {
  edges_within : l.i ≤ length l.edges;
  core_within : l.j ≤ length l.core;
  left : RisesBy (λ e. e.line) 0 l.core → lines_lacking l.edges l.core ≡ lines_lacking (drop l.i l.edges) (drop l.j l.core);
}

abbrev pub decreases-loop-j : goal.decreases-loop-j
decreases-loop-j l = length l.edges - l.i
