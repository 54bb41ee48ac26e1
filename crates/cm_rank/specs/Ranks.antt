-- How many cells before a place are not idle.
use Rattle.std.specs.Prelude.{◌≡◌, ℕ, ◌+◌, ◌-◌, ◌*◌, ◌/◌, ◌%◌, ◌^◌, ◌<◌, List, length, slice_index, take, drop, count_by}
use Rattle.std.specs.Int.{div_ceil, from_le_bytes, to_le_bytes, w32}
use Rattle.cm_spec.specs.Cells.{is_busy}
use Rattle.cm_spec.specs.Lists.{list_of}

-- how many of the first v cells differ from idle
abbrev pub rank_of : ℕ → List ℕ → ℕ → ℕ
rank_of idle cells v = count_by (is_busy idle) (take v cells)

-- sampled ranks: the value of an idle cell, the distance of the samples as a power of 2, and the ranks
pub record Samples : Type 0 where
  pub idle : ℕ
  pub shift : ℕ
  pub ranks : List ℕ

-- the ranks of every 2 ^ shift-th cell, from cell 0 on
unfoldable pub sampled : ℕ → ℕ → List ℕ → List ℕ
sampled idle shift cells = list_of (λ k. rank_of idle cells (k * 2 ^ shift)) (div_ceil (length cells) (2 ^ shift))

-- the ranks are those of these cells
abbrev pub StandsFor : Samples → List ℕ → Type 0
StandsFor t cells = t.ranks ≡ sampled t.idle t.shift cells

-- the rank that is kept for the block of cell i, and how many cells of the block are not idle before cell i
unfoldable pub sampled_rank : Samples → List ℕ → ℕ → ℕ
sampled_rank t cells i = slice_index t.ranks (i / 2 ^ t.shift) + (rank_of t.idle cells i - rank_of t.idle cells (i / 2 ^ t.shift * 2 ^ t.shift))

-- the lowest n pairs of bits of a number
abbrev pub crumbs_of : ℕ → ℕ → List ℕ
crumbs_of word n = list_of (λ i. word / 4 ^ i % 4) n

-- the bytes of rank i, four each, counted from 0
abbrev pub rank_bytes : List ℕ → ℕ → List ℕ
rank_bytes bytes i = take 4 (drop (4 * i) bytes)

-- rank i of bytes, the lowest byte first
abbrev pub rank_in : List ℕ → ℕ → ℕ
rank_in bytes i = from_le_bytes w32 (rank_bytes bytes i)

-- all ranks of bytes
unfoldable pub ranks_in : List ℕ → List ℕ
ranks_in bytes = list_of (rank_in bytes) (length bytes / 4)

-- the first ranks of bytes are those of every 2 ^ shift-th cell
abbrev pub HoldRanks : ℕ → ℕ → List ℕ → List ℕ → ℕ → Type 0
HoldRanks idle shift cells bytes count = (i : ℕ) → i < count → rank_bytes bytes i ≡ to_le_bytes w32 (rank_of idle cells (i * 2 ^ shift))
