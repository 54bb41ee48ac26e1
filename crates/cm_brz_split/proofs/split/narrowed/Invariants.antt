use Rattle.std.proofs.Common.{◌≡◌, ◌≤◌, length, take, vec_capacity}
use Rattle.cm_brz_split.proofs.split.narrowed.Given as goal

abbrev pub invariant-loop-size : goal.invariant-loop-size
invariant-loop-size l = record {
  room : length l.sizes ≤ vec_capacity l.narrow;
  same : l.narrow.items ≡ take l.size-index l.sizes;
}
