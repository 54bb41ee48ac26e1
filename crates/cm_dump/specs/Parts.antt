-- Ranks in a part of a dump, four bytes each.
use Rattle.std.specs.Prelude.{◌≡◌, ◌<◌, ℕ, List, slice_index}
use Rattle.std.specs.Int.{to_le_bytes, w32}
use Rattle.cm_rank.specs.Ranks.{rank_bytes}

-- the first ranks of a part are these
abbrev pub AreRanks : List ℕ → List ℕ → ℕ → Type 0
AreRanks part ranks count = (i : ℕ) → i < count → rank_bytes part i ≡ to_le_bytes w32 (slice_index ranks i)
