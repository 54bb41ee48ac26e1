-- The shards of keys.
use Rattle.std.specs.Prelude.{◌%◌, ℕ, List, slice_index}
use Rattle.cm_spec.specs.Lookup2.{words}

-- a route: the seed of the hash, and how many shards there are
pub record Route : Type 0 where
  pub seed : ℕ
  pub shards : ℕ

-- the shard of a key: its third hash value, modulo their number
abbrev pub shard_of : Route → List ℕ → ℕ
shard_of r key = slice_index (words key r.seed) 2 % r.shards
