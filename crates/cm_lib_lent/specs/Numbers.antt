-- The numbers of keys, as they are put into lent memory.
use Rattle.std.specs.Prelude.{◌≡◌, ◌<◌, ◌≤◌, ◌+◌, ◌-◌, ℕ, List, [], length, slice_index, slice_index_or, Option, None, Some}
use Rattle.cm_keys_lent.specs.Ends.{key_in}
use Rattle.cm_keys_lent.specs.Pass.{LentPass}
use Rattle.cm_lib_lent.specs.declared.numbers.TheConstants.{NONE}

-- the number of an answer, or what stands for none
abbrev pub number_or_none : Option ℕ → ℕ
number_or_none (Some number) = number
number_or_none None = NONE

-- The numbers of the keys from one on, up to another, stand in the places of these keys, and all other places are as they were.
pub record ArePut (answer : List ℕ → Option ℕ) (keys : LentPass) (from until : ℕ) (old new : List ℕ) : Type 0 where
  pub len : length new ≡ length old
  pub before : (i : ℕ) → i < from → slice_index new i ≡ slice_index old i
  pub put : (i : ℕ) → from ≤ i → i < until → slice_index new i ≡ number_or_none (answer (key_in keys.bytes keys.ends i))
  pub after : (i : ℕ) → until ≤ i → slice_index new i ≡ slice_index old i

-- The places of the keys from one on are these.
pub record ArePlaces (place : List ℕ → List ℕ) (keys : LentPass) (from until : ℕ) (places : List (List ℕ)) : Type 0 where
  pub many : length places + from ≡ until
  pub are : (i : ℕ) → from ≤ i → i < until → slice_index_or places (i - from) [] ≡ place (key_in keys.bytes keys.ends i)

-- The answers to the keys from one on are the first of these.
abbrev pub AreAnswered : (List ℕ → Option ℕ) → LentPass → ℕ → ℕ → List (Option ℕ) → Type 0
AreAnswered answer keys from until answers = (i : ℕ) → from ≤ i → i < until → slice_index_or answers (i - from) None ≡ answer (key_in keys.bytes keys.ends i)
