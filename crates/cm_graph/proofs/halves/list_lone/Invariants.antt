use Rattle.std.proofs.Common.{◌≡◌, ◌≤◌, ◌+◌, take}
use Rattle.cm_graph_edges.specs.Graph.{places_of}
use Rattle.cm_graph.proofs.halves.list_lone.Given as goal

abbrev pub invariant-loop-half : goal.invariant-loop-half
invariant-loop-half g l = record {
  few : l.count ≤ l.half-index;
  places : take l.count l.places ≡ places_of (g.S.Halves.kept l.store) (take l.half-index l.halves);
  steps : l.steps ≡ l.fn.steps + l.half-index;
}
