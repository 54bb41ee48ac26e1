use Rattle.std.proofs.Common.{◌≡◌, ◌≤◌, drop, length}
use Rattle.cm_algo_cells.specs.OneByOne.{one_by_one}
use Rattle.cm_spec.specs.Cells.{plan_of, all_idle}
use Rattle.cm_algo_cells.proofs.cells.assign.Given as goal

abbrev pub invariant-chunks : goal.invariant-chunks
invariant-chunks g l = record {
  bound : g.S.Table.Cells.bound_of l.table ≡ (g.S.Scheme.rule l.scheme).bound (length l.edges.edges);
  within : l.at ≤ length l.order;
  cells : g.S.Table.Cells.cells l.table ≡ one_by_one (plan_of (g.S.Scheme.rule l.scheme) l.edges.vertices l.edges.edges l.tags) (all_idle (plan_of (g.S.Scheme.rule l.scheme) l.edges.vertices l.edges.edges l.tags)) (drop l.at l.order);
}

abbrev pub decreases-chunks : goal.decreases-chunks
decreases-chunks g l = l.at
