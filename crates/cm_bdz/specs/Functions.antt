-- Functions by BDZ and BDZ_PH, and their answers.
use Rattle.std.specs.Prelude.{◌≡◌, ◌<◌, ◌≤◌, ◌*◌, ◌%◌, ◌^◌, ◌==◌, ℕ, List, length, slice_index, count_by, if◌then◌else◌, Option, None, Some}
use Rattle.std.specs.List.{sum_by}
use Rattle.cm_bits.specs.Bound.{AllBelow}
use Rattle.cm_rank.specs.Ranks.{rank_of}
use Rattle.cm_spec.specs.Bdz.{bdz_edge, bdz_size}
use Rattle.cm_spec.specs.Cells.{is_busy}
use Rattle.cm_spec.specs.Lookup2.{words}
use Rattle.cm_spec.specs.Rule.{IsRatio}
use Rattle.cm_spec.specs.declared.limits.TheConstants.{MAX_KEYS}

-- three times a number above 0
pub record IsThirds (n : ℕ) : Type 0 where
  pub third : ℕ
  pub some : 0 < third
  pub is : n ≡ 3 * third

-- of some ends, the one whose position is the sum of their cells, modulo 3
abbrev pub chosen_end : List ℕ → List ℕ → ℕ
chosen_end cells ends = slice_index ends (sum_by (slice_index cells) ends % 3)

-- the vertex that cells choose for a key
abbrev pub chosen_of : List ℕ → List ℕ → ℕ → ℕ
chosen_of cells key seed = chosen_end cells (bdz_edge (words key seed) (length cells))

-- a function by BDZ: the number of keys, the ratio in millionths, the seed, how far apart ranks are sampled as a power of 2, and the cells
pub record Bdz : Type 0 where
  pub keys : ℕ
  pub ratio : ℕ
  pub seed : ℕ
  pub shift : ℕ
  pub cells : List ℕ

-- the rank of a vertex among those whose cells are not 3, and none if its cell is 3
abbrev pub ranked : List ℕ → ℕ → Option ℕ
ranked cells v = if slice_index cells v == 3 then None else Some (rank_of 3 cells v)

-- the answer of a function by BDZ: the rank of the chosen vertex
abbrev pub bdz_answer : Bdz → List ℕ → Option ℕ
bdz_answer f key = ranked f.cells (chosen_of f.cells key f.seed)

-- a function by BDZ_PH
pub record BdzPh : Type 0 where
  pub keys : ℕ
  pub ratio : ℕ
  pub seed : ℕ
  pub cells : List ℕ

-- its answer: the chosen vertex
abbrev pub bdz_ph_answer : BdzPh → List ℕ → ℕ
bdz_ph_answer f key = chosen_of f.cells key f.seed

-- a BDZ function: its numbers are in their ranges, and it has as many cells as its graph has vertices, each below 4, of which
-- as many are not 3 as there are keys
pub record IsBdz (f : Bdz) : Type 0 where
  pub keys : (1 ≤ f.keys) × (f.keys ≤ MAX_KEYS)
  pub ratio : IsRatio f.ratio
  pub seed : f.seed < 2 ^ 32
  pub shift : (3 ≤ f.shift) × (f.shift ≤ 10)
  pub size : length f.cells ≡ bdz_size f.keys f.ratio
  pub below : AllBelow 4 f.cells
  pub busy : count_by (is_busy 3) f.cells ≡ f.keys

-- a BDZ_PH function: its numbers are in their ranges, and it has as many cells as its graph has vertices, each below 3
pub record IsBdzPh (f : BdzPh) : Type 0 where
  pub keys : (1 ≤ f.keys) × (f.keys ≤ MAX_KEYS)
  pub ratio : IsRatio f.ratio
  pub seed : f.seed < 2 ^ 32
  pub size : length f.cells ≡ bdz_size f.keys f.ratio
  pub below : AllBelow 3 f.cells
