use Rattle.std.proofs.Common.{◌≡◌, ◌+◌, ◌*◌, length}
use Rattle.cm_graph.proofs.Linking.{linked_first}
use Rattle.cm_graph.proofs.halves.link_each.Given as goal

abbrev pub invariant-loop-e : goal.invariant-loop-e
invariant-loop-e g l = record {
  end : l.e-end ≡ length l.edges.edges;
  store : g.S.Halves.kept l.store ≡ linked_first l.edges.vertices l.edges.edges l.e;
  steps : l.steps ≡ l.fn.steps + g.row.K * l.e;
}
