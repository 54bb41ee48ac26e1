use Rattle.std.proofs.Common.{◌≡◌, ◌*◌, ◌≤◌, take}
use Rattle.std.specs.List.{sum_by}
use Rattle.cm_spec.specs.Cells.{cell_but}
use Rattle.cm_algo_cells.proofs.cells.sum_others.Given as goal

abbrev pub invariant-loop-u : goal.invariant-loop-u
invariant-loop-u g l = record {
  ends : l.u-items ≡ l.fn.ends;
  sum : l.sum ≡ sum_by (cell_but (g.C.Cells.cells l.table) l.v) (take l.u-index l.u-items);
  small : l.sum ≤ l.u-index * 4294967296;
}
