-- Keys that stand one after another in bytes, each up to its end.
use Rattle.std.specs.Prelude.{◌<◌, ◌≤◌, ◌+◌, ◌-◌, ℕ, List, ◌∷◌, length, map, take, drop, slice_index, slice_index_or}
use Rattle.std.specs.List.{range_with_len}
use Rattle.cm_io.specs.declared.key_pass.TheConstants.{MAX_KEY_LEN}

-- where key i begins: at the end of the key before it
abbrev pub begin_of : List ℕ → ℕ → ℕ
begin_of ends i = slice_index_or (0 ∷ ends) i 0

-- the bytes of key i
abbrev pub key_in : List ℕ → List ℕ → ℕ → List ℕ
key_in bytes ends i = take (slice_index ends i - begin_of ends i) (drop (begin_of ends i) bytes)

-- the keys with their numbers, which count from 1 as those of lines do
abbrev pub keys_in : List ℕ → List ℕ → List (ℕ × List ℕ)
keys_in bytes ends = map (λ i. (i + 1, key_in bytes ends i)) (range_with_len 0 (length ends))

-- End i is one of the bytes' and not before that of the key before, and the key is no longer than a key may be.
pub record IsEnd (bytes ends : List ℕ) (i : ℕ) : Type 0 where
  pub order : begin_of ends i ≤ slice_index ends i
  pub inside : slice_index ends i ≤ length bytes
  pub short : slice_index ends i ≤ begin_of ends i + MAX_KEY_LEN

-- all of them are ends
abbrev pub AreEnds : List ℕ → List ℕ → Type 0
AreEnds bytes ends = (i : ℕ) → i < length ends → IsEnd bytes ends i

-- The first that is not.
pub record BadEnd (bytes ends : List ℕ) (i : ℕ) : Type 0 where
  pub there : i < length ends
  pub before : (k : ℕ) → k < i → IsEnd bytes ends k
  pub bad : IsEnd bytes ends i → ⊥
