use Rattle.std.proofs.Common.{arith, inl, inr}
use Rattle.cm_shards_split.specs.PlacedLaws.{placed_at, placed_counts, placed_kept}
use Rattle.cm_shards_split.proofs.laws.files_of_a_split.Goals as goal

pub returns : goal.returns
returns c = record {
  shards = λ dir i parts text files inside few. placed_at dir i parts text files inside (omega (arith, few));
  counts = placed_counts;
  others = placed_kept;
  keys = λ job parts text files few none. placed_kept job.dir parts text files job.keys (λ same. none (inl same)) (λ i below same. none (inr (i, omega (arith, below, few), same)));
}
