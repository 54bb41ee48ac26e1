use Rattle.std.proofs.Common.{◌≡◌, ◌≤◌, ◌+◌, drop, eqb}
use Rattle.std.specs.List.{position_or_len}
use Rattle.cm_peel.proofs.chunk.first_one.Given as goal

abbrev pub invariant-ends : goal.invariant-ends
invariant-ends g l = record {
  low : l.i ≤ g.row.K;
  high : l.first ≤ g.row.K;
  first : l.first ≡ l.i + position_or_len (λ d. eqb d 1) (drop l.i l.degrees);
}

abbrev pub decreases-ends : goal.decreases-ends
decreases-ends g l = l.i
