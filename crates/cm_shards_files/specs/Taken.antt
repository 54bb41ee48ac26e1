-- How keys that are looked up together are kept: their bytes one after another, and where each begins and ends.
use Rattle.std.specs.Prelude.{◌≤◌, ◌-◌, ℕ, List, length, take, drop}
use Rattle.cm_shards_files.specs.declared.taken.Spot.{Spot}

-- the bytes of a key
abbrev pub key_in : List ℕ → Spot → List ℕ
key_in bytes s = take (s.until - s.from) (drop s.from bytes)

-- they stand among all
abbrev pub StandsIn : List ℕ → Spot → Type 0
StandsIn bytes s = (s.from ≤ s.until) × (s.until ≤ length bytes)
