use Rattle.std.proofs.Common.{◌≡◌, ℕ, [], length}
use Rattle.cm_graph.specs.Waiting.{waiting_in}
use Rattle.cm_graph.proofs.blocks.new_buckets.Given as goal

abbrev pub invariant-loop-b : goal.invariant-loop-b
invariant-loop-b l = record {
  many : length l.buckets.items ≡ l._b;
  none : (b : ℕ) → waiting_in l.buckets.items b ≡ [];
}
