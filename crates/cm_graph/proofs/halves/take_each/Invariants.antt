use Rattle.std.proofs.Common.{◌≡◌, ◌+◌, take}
use Rattle.cm_graph_edges.specs.Graph.{removed_all}
use Rattle.cm_graph.proofs.halves.take_each.Given as goal

abbrev pub invariant-loop-half : goal.invariant-loop-half
invariant-loop-half g l = record {
  store : g.S.Halves.kept l.store ≡ removed_all (g.S.Halves.kept l.fn.store) (take l.half-index l.halves);
  steps : l.steps ≡ l.fn.steps + l.half-index;
}
