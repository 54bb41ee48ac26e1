-- The vertices that cells choose for keys that are looked up together.
use Rattle.std.specs.Prelude.{◌≡◌, ◌<◌, ◌*◌, ◌/◌, ◌^◌, ℕ, List, [], length, slice_index, slice_index_or}
use Rattle.cm_bdz.specs.Functions.{Bdz, chosen_end}
use Rattle.cm_bdz.specs.Places.{bdz_place}
use Rattle.cm_rank.specs.Ranks.{rank_of}
use Rattle.cm_spec.specs.Bdz.{bdz_edge}

-- each of the places is that of some hash values
abbrev pub AreBdzPlaces : ℕ → List (List ℕ) → Type 0
AreBdzPlaces n places = (i : ℕ) → i < length places → (words : List ℕ) × (slice_index_or places i [] ≡ bdz_place words n)

-- the first k numbers are the vertices that the cells choose for the first k places
pub record AreChosen (cells : List ℕ) (places : List (List ℕ)) (k : ℕ) (vertices : List ℕ) : Type 0 where
  pub are : (i : ℕ) → i < k → (words : List ℕ) → slice_index_or places i [] ≡ bdz_place words (length cells) → slice_index vertices i ≡ chosen_end cells (bdz_edge words (length cells))
  pub inside : (i : ℕ) → i < k → slice_index vertices i < length cells

-- the sample for the cell of a vertex: the rank of the first cell of its block
abbrev pub sample_of : Bdz → ℕ → ℕ
sample_of f v = rank_of 3 f.cells (v / 2 ^ f.shift * 2 ^ f.shift)
