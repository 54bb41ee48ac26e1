-- A table of keys by their bytes.
use Rattle.std.specs.Prelude.{◌≡◌, ◌<◌, ◌≤◌, ◌+◌, ◌^◌, ℕ, List, [], length, take, drop, slice_index_or, All}
use Rattle.cm_witness_gather.specs.Candidates.{word_of}
use Rattle.cm_witness_gather.specs.declared.table.Spot.{Spot}

-- the line and the bytes of a key, which stand among these
abbrev pub spotted_in : List ℕ → Spot → ℕ × List ℕ
spotted_in bytes s = (s.line, take s.len (drop s.from bytes))

-- its bytes do stand there
abbrev pub StandsIn : List ℕ → Spot → Type 0
StandsIn bytes s = s.from + s.len ≤ length bytes

-- the keys of a table with their lines, and its slots: each has the number of a key, counted from 1, or 0
pub record Tabled : Type 0 where
  pub keys : List (ℕ × List ℕ)
  pub slots : List ℕ

-- the number in the slot of these bytes
abbrev pub number_of : List ℕ → List ℕ → ℕ
number_of slots key = slice_index_or slots (word_of (length slots) key) 0

-- each key is found by its slot
pub record IsTable (keys : List (ℕ × List ℕ)) (slots : List ℕ) : Type 0 where
  pub some : 0 < length slots
  pub few : length slots ≤ 2 ^ 32
  pub inside : All (λ n. n ≤ length keys) slots
  pub finds : (i : ℕ) → i < length keys → number_of slots (slice_index_or keys i (0, [])).1 ≡ i + 1

-- a key of these bytes is new to a table, and may be added: no key has its slot
pub record Takes (table : Tabled) (key : List ℕ) : Type 0 where
  pub free : number_of table.slots key ≡ 0
  pub few : length table.keys + 1 < 2 ^ 32
  pub short : length key < 2 ^ 32
