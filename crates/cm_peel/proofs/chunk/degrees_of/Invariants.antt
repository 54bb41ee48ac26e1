use Rattle.std.proofs.Common.{◌≡◌, ◌+◌, length, map, take}
use Rattle.cm_graph_edges.specs.Graph.{degree_of}
use Rattle.cm_peel.proofs.chunk.degrees_of.Given as goal

abbrev pub invariant-loop-i : goal.invariant-loop-i
invariant-loop-i g l = record {
  long : length l.degrees ≡ length l.ends;
  degrees : take l.i l.degrees ≡ map (degree_of (g.I.Incidence.links l.incidence)) (take l.i l.ends);
  steps : l.steps ≡ l.fn.steps + l.i;
}
