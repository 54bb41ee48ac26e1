use Rattle.std.proofs.Common.{◌≡◌, ◌≤◌, ◌+◌, length, take}
use Rattle.cm_graph_edges.specs.Graph.{alone_from}
use Rattle.cm_graph.proofs.halves.list_from.Given as goal

abbrev pub invariant-loop-i : goal.invariant-loop-i
invariant-loop-i g l = record {
  end : l.i-end ≡ length l.fn.places;
  long : length l.places ≡ length l.fn.places;
  few : l.count ≤ l.i;
  places : take l.count l.places ≡ alone_from (g.S.Halves.kept l.store) l.first l.i;
  steps : l.steps ≡ l.fn.steps + l.i;
}
