use Rattle.std.proofs.Common.{◌≡◌, ◌<◌, ◌≤◌, ◌+◌, ◌*◌, ℕ, [], length}
use Rattle.cm_graph.specs.Waiting.{AreFirst, AreSplit, count_waiting, waiting_in}
use Rattle.cm_graph.proofs.blocks.empty_all.Given as goal

abbrev pub invariant-loop-b : goal.invariant-loop-b
invariant-loop-b g l = record {
  end : l.b-end ≡ length l.buckets.items;
  split : AreSplit g.row.K l.edges.vertices l.edges.edges (g.S.Halves.kept l.store) l.buckets.items;
  first : AreFirst g.row.K (4 * length l.edges.edges) (g.S.Halves.kept l.store).slots l.buckets.items;
  steps : l.steps + count_waiting l.buckets.items ≤ l.fn.steps + count_waiting l.fn.buckets.items;
  none : (i : ℕ) → i < l.b → waiting_in l.buckets.items i ≡ [];
}
