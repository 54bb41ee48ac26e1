use Rattle.std.proofs.Common.{◌≤◌, ◌<◌, ◌-◌, ℕ, get_or, length}
use Rattle.cm_witness_gather.specs.declared.certificate.CoreEdge.{CoreEdge}
use Rattle.cm_judge_core.proofs.walking.skip_below.Given as goal

abbrev pub invariant-loop-i : goal.invariant-loop-i
invariant-loop-i l = record {
  within : l.i ≤ length l.edges;
  low : l.from ≤ l.i;
  below : (k : ℕ) (d : CoreEdge) → l.from ≤ k → k < l.i → (get_or l.edges k d).line < l.line;
}

abbrev pub decreases-loop-i : goal.decreases-loop-i
decreases-loop-i l = length l.edges - l.i
