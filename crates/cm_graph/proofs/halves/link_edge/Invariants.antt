use Rattle.std.proofs.Common.{◌≡◌, ◌+◌, take}
use Rattle.cm_graph_edges.specs.Graph.{linked}
use Rattle.cm_graph.proofs.halves.link_edge.Given as goal

abbrev pub invariant-loop-j : goal.invariant-loop-j
invariant-loop-j g l = record {
  end : l.j-end ≡ g.row.K;
  store : g.S.Halves.kept l.store ≡ linked (g.S.Halves.kept l.fn.store) l.fn.e (take l.j l.fn.ends);
  steps : l.steps ≡ l.fn.steps + l.j;
}
