use Rattle.std.proofs.Common.{◌≤◌}
use Rattle.cm_witness_gather.proofs.candidates.Candidates.count.Given as goal

abbrev pub invariant-loop-place : goal.invariant-loop-place
invariant-loop-place g l = l.count ≤ l.place-index
