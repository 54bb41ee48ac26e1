use Rattle.std.proofs.Common.{◌≡◌, ◌<◌, ℕ, [], length, map, take, get_or}
use Rattle.cm_spec.specs.Graph.{IsEdge, ends_at}
use Rattle.cm_graph_edges.proofs.edges.Edges.gather.Given as goal

abbrev pub invariant-loop-i : goal.invariant-loop-i
invariant-loop-i g l = record {
  long : length l.ends ≡ length l.chunk;
  ends : take l.i l.ends ≡ map (ends_at l.self.edges) (take l.i l.chunk);
  edges : (k : ℕ) → k < l.i → IsEdge l.self.vertices (get_or l.ends k []);
}
