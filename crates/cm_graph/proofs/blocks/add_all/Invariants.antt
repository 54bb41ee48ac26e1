use Rattle.std.proofs.Common.{◌≡◌, ◌≤◌, ◌+◌, ◌*◌, length}
use Rattle.cm_graph.specs.Waiting.{AreFirst, AreSplit, count_waiting}
use Rattle.cm_graph.proofs.blocks.add_all.Given as goal

abbrev pub invariant-loop-e : goal.invariant-loop-e
invariant-loop-e g l = record {
  end : l.e-end ≡ length l.edges.edges;
  split : AreSplit g.row.K l.edges.vertices l.edges.edges (g.S.Halves.kept l.store) l.buckets.items;
  first : AreFirst g.row.K (4 * l.e) (g.S.Halves.kept l.store).slots l.buckets.items;
  many : length l.buckets.items ≡ length l.fn.buckets.items;
  steps : l.steps + count_waiting l.buckets.items ≤ l.fn.steps + count_waiting l.fn.buckets.items + g.row.K * l.e;
}
