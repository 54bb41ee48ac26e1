-- Lemmas about cells after which others are appended. Crates that append cells cite them, and no contract needs them.
use Rattle.std.specs.Prelude.{◌≡◌, ℕ, ◌-◌, ◌*◌, ◌<◌, ◌++◌, List, length, slice_index, replicate}
use Rattle.std.proofs.Common.{arith, sym, ◌∙◌, inl, inr, refl}
use Rattle.std.proofs.lemmas.Bool.{cases_lt}
use Rattle.std.proofs.lemmas.List.{get_or-append_right, get_or-replicate, get_or_append_left, get_or_past, length-append, length-replicate}
use Rattle.cm_spec.specs.Image.{packed_len}
use Rattle.cm_bits.specs.Appending.{filled_up}
use Rattle.cm_bits.specs.PackedLaws.{le-packed_len}

pub cell_of_zeros : (n i : ℕ) → slice_index (replicate n 0) i ≡ 0
cell_of_zeros n i = elim (cases_lt i n) [
  | inl l ↦ get_or-replicate n i 0 0 l
  | inr l ↦ get_or_past (replicate n 0) i 0 (let len : length (replicate n 0) ≡ n = length-replicate {A = ℕ} n 0 in omega arith)
]

-- zeros after a list change none of its reads
pub zeros_after : (xs : List ℕ) (n k : ℕ) → slice_index (xs ++ replicate n 0) k ≡ slice_index xs k
zeros_after xs n k = elim (cases_lt k (length xs)) [
  | inl l ↦ get_or_append_left xs (replicate n 0) 0 k l
  | inr l ↦ get_or-append_right xs (replicate n 0) (length xs) k 0 refl l ∙ cell_of_zeros n (k - length xs) ∙ sym (get_or_past xs k 0 l)
]

pub length-filled_up : (p : ℕ) (xs : List ℕ) → 0 < p → length (filled_up p xs) ≡ p * packed_len p (length xs)
length-filled_up p xs q =
    omega (arith, le-packed_len p (length xs) q, length-append xs (replicate (p * packed_len p (length xs) - length xs) 0), length-replicate {A = ℕ} (p * packed_len p (length xs) - length xs) 0)
