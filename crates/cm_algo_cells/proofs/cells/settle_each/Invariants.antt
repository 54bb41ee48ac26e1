use Rattle.std.proofs.Common.{◌≡◌, ◌≤◌, ℕ, List, length, drop}
use Rattle.cm_algo_cells.specs.OneByOne.{AreOf, edge_parts, one_by_one}
use Rattle.cm_spec.specs.Cells.{Plan}
use Rattle.cm_algo_cells.proofs.cells.settle_each.Given as goal

abbrev pub invariant-edges : goal.invariant-edges
invariant-edges g l = record {
  bound : g.C.Cells.bound_of l.table ≡ g.C.Cells.bound_of l.fn.table;
  long : length (g.C.Cells.cells l.table) ≡ length (g.C.Cells.cells l.fn.table);
  within : l.i ≤ length l.ends;
  cells : (p : Plan) (chunk : List ℕ) → AreOf p chunk l.modulus (edge_parts l.ends l.positions l.targets) → g.C.Cells.cells l.table ≡ one_by_one p (g.C.Cells.cells l.fn.table) (drop l.i chunk);
}

abbrev pub decreases-edges : goal.decreases-edges
decreases-edges g l = l.i
