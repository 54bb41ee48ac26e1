use Rattle.std.proofs.Common.{◌≡◌, ℕ, ◌<◌, length}
use Rattle.std.specs.List.{slice_index}
use Rattle.cm_bits.proofs.fill.filled.Given as goal

abbrev pub invariant-loop-i : goal.invariant-loop-i
invariant-loop-i g l = record {
  bound : g.C.Cells.bound_of l.table ≡ l.bound;
  len : length (g.C.Cells.cells l.table) ≡ l.n;
  below : (k : ℕ) → k < l.i → slice_index (g.C.Cells.cells l.table) k ≡ l.value;
}
