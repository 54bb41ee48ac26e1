use Rattle.std.proofs.Common.{◌≡◌, ◌<◌, ℕ, [], length, get_or}
use Rattle.cm_spec.specs.Cells.{sum_but}
use Rattle.cm_algo_cells.proofs.cells.sum_each.Given as goal

abbrev pub invariant-loop-i : goal.invariant-loop-i
invariant-loop-i g l = record {
  long : length l.sums ≡ length l.fn.sums;
  sum : (k : ℕ) → k < l.i → get_or l.sums k 0 ≡ sum_but (g.C.Cells.cells l.table) (get_or (get_or l.ends k []) (get_or l.positions k 0) 0) (get_or l.ends k []);
}
