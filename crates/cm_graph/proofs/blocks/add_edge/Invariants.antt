use Rattle.std.proofs.Common.{◌≡◌, ◌≤◌, ◌+◌, ◌*◌, length}
use Rattle.cm_graph.specs.Waiting.{AreFirst, AreSplit, count_waiting}
use Rattle.cm_graph.proofs.blocks.add_edge.Given as goal

abbrev pub invariant-loop-j : goal.invariant-loop-j
invariant-loop-j g l = record {
  end : l.j-end ≡ g.row.K;
  split : AreSplit g.row.K l.edges.vertices l.edges.edges (g.S.Halves.kept l.store) l.buckets.items;
  first : AreFirst g.row.K (4 * l.e + l.j) (g.S.Halves.kept l.store).slots l.buckets.items;
  many : length l.buckets.items ≡ length l.fn.buckets.items;
  steps : l.steps + count_waiting l.buckets.items ≤ l.fn.steps + count_waiting l.fn.buckets.items + l.j;
}
