use Rattle.std.proofs.Common.{◌≡◌, ◌≢◌, ◌+◌, ◌≤◌, ℕ, length}
use Rattle.cm_graph.specs.Waiting.{AreSplit, IsSame, count_waiting, waiting_in}
use Rattle.cm_graph.proofs.blocks.empty_bucket.Given as goal

abbrev pub invariant-loop-i : goal.invariant-loop-i
invariant-loop-i g l = record {
  split : AreSplit g.row.K l._edges.vertices l._edges.edges (g.S.Halves.kept l.store) l.buckets.items;
  same : IsSame (g.S.Halves.kept l.fn.store).slots l.fn.buckets.items (g.S.Halves.kept l.store).slots l.buckets.items;
  left : length (waiting_in l.buckets.items l.b) + l._i ≡ l._i-end;
  others : (i : ℕ) → i ≢ l.b → waiting_in l.buckets.items i ≡ waiting_in l.fn.buckets.items i;
  steps : l.steps + count_waiting l.buckets.items ≤ l.fn.steps + count_waiting l.fn.buckets.items;
  many : length l.buckets.items ≡ length l.fn.buckets.items;
}
