use Rattle.std.proofs.Common.{◌≡◌, ◌<◌, ℕ}
use Rattle.cm_shards_split.specs.Names.{counts_path, shard_path}
use Rattle.cm_shards_split.proofs.overwriting.makes_keys.Given as goal

abbrev pub invariant-loop-k : goal.invariant-loop-k
invariant-loop-k l = record {
  counts : l.job.keys ≡ counts_path l.job.dir → ⊥;
  shards : (j : ℕ) → j < l.k → l.job.keys ≡ shard_path l.job.dir j → ⊥;
}
