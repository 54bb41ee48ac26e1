-- Cells of w bits in bytes that end with them.
use Rattle.std.specs.Prelude.{◌≡◌, ℕ, suc, ◌+◌, ◌-◌, ◌*◌, ◌/◌, ◌%◌, ◌^◌, ◌<◌, ◌≤◌, List, length, slice_index, take, Bool, nat_le, position, refl, Some, None}
use Rattle.std.proofs.Common.{arith, ap, sym, ◌∙◌, inl, inr, lit<}
use Rattle.std.proofs.Math.Nat.{mul-le-mul_left, pow-le-pow_right, div-mul-le_self}
use Rattle.std.proofs.lemmas.Bool.{cases_lt, leb-false, leb-true}
use Rattle.std.proofs.lemmas.List.{ext_get_or, get_or_past, get_or-take, length-take}
use Rattle.std.proofs.lemmas.List.Sums.{fails_before_first, passes_at_first}
use Rattle.cm_spec.specs.Image.{digits_sum, fields_len}
use Rattle.cm_bits.specs.Fault.{bytes_number, field_cells}
use Rattle.cm_bits.specs.FieldsLaws.{length-field_cells, field_cells-at}
use Rattle.cm_bits.specs.Held.{AreBelow, window_at}
use Rattle.cm_bits.specs.DigitsLaws.{digits_sum-first, digits_sum-lt, digits_sum-same, digits_sum-short}
use Rattle.cm_bits.proofs.FaultLemmas.{found}
use Rattle.cm_bits.proofs.FieldsLemmas.{field_read}
use Rattle.cm_bits.proofs.FieldsFaultLemmas.{all_sound, bad_at, sound_cells}

-- the number that the bytes from a place on make
abbrev pub number_from : List ℕ → ℕ → ℕ
number_from bytes from = digits_sum 256 (λ k. slice_index bytes (from + k)) (length bytes - from)

pub number_from-none : (bytes : List ℕ) → number_from bytes (length bytes) ≡ 0
unfolding digits_sum
number_from-none bytes = let none : length bytes - length bytes ≡ 0 = omega arith in rw none refl

-- with one byte more before them
pub number_from-before : (bytes : List ℕ) (from : ℕ) → 0 < from → from ≤ length bytes → number_from bytes (from - 1) ≡ number_from bytes from * 256 + slice_index bytes (from - 1)
number_from-before bytes from some l =
    let more : length bytes - (from - 1) ≡ suc (length bytes - from) = omega arith in
    let lowest : from - 1 + 0 ≡ from - 1 = omega arith in
    let rest : digits_sum 256 (λ k. slice_index bytes (from - 1 + suc k)) (length bytes - from) ≡ number_from bytes from =
    digits_sum-same 256 _ _ (length bytes - from) (λ k m. let e : from - 1 + suc k ≡ from + k = omega arith in rw e refl) in
    rw (more, digits_sum-first 256 (λ k. slice_index bytes (from - 1 + k)) (length bytes - from), lowest, rest) (omega arith)

-- six bytes make a number with room for one more in 64 bits
pub number_from-small : (bytes : List ℕ) (from : ℕ) → ((k : ℕ) → slice_index bytes k < 256) → length bytes ≤ from + 6 → number_from bytes from < 256 ^ 6
number_from-small bytes from fit l =
    let below : number_from bytes from < 256 ^ (length bytes - from) = digits_sum-lt 256 (λ k. slice_index bytes (from + k)) (length bytes - from) (λ k m. fit (from + k)) in
    let most : 256 ^ (length bytes - from) ≤ 256 ^ 6 = pow-le-pow_right (lit< tt) (let e : length bytes - from ≤ 6 = omega arith in e) in
    omega (arith, below, most)

-- fewer than eight bytes to the end are a window with zeros after them
pub number_from-window : (bytes : List ℕ) (at : ℕ) → length bytes ≤ at + 8 → number_from bytes at ≡ window_at bytes at
unfolding window_at
number_from-window bytes at l =
    sym (digits_sum-short 256 (λ k. slice_index bytes (at + k)) 8 (length bytes - at) (omega arith) (λ k m n. get_or_past bytes (at + k) 0 (omega arith)))

-- the byte of a cell's lowest bit is there
pub cell_there : (w n i : ℕ) → 0 < w → i < n → i * w / 8 < fields_len w n
cell_there w n i some l =
    let e : w * suc i ≤ w * n = mul-le-mul_left w (let m : suc i ≤ n = omega arith in m) in
    omega arith

-- groups of eight cells with eight bytes after them are not more than all cells
pub groups_le : (w n len : ℕ) → 0 < w → len ≡ fields_len w n → 8 * ((len - 8) / w) ≤ n
groups_le w n len some e = elim (cases_lt n (8 * ((len - 8) / w))) [
  | inl l ↦
      let more : w * suc n ≤ w * (8 * ((len - 8) / w)) = mul-le-mul_left w (let m : suc n ≤ 8 * ((len - 8) / w) = omega arith in m) in
      let inside : (len - 8) / w * w ≤ len - 8 = div-mul-le_self (len - 8) w in
      absurd (omega arith)
  | inr l ↦ l
]

-- they have the same cells without the bytes after these
pub groups_cells : (w g : ℕ) (bytes : List ℕ) → w ≤ 26 → ((k : ℕ) → slice_index bytes k < 256) → field_cells w (8 * g) (bytes_number (take (g * w + 8) bytes)) ≡ field_cells w (8 * g) (bytes_number bytes)
unfolding window_at
groups_cells w g bytes short fit =
    let first : List ℕ = take (g * w + 8) bytes in
    let fits : (k : ℕ) → slice_index first k < 256 = λ k. elim (cases_lt k (g * w + 8)) [
      | inl l ↦ rw (get_or-take (g * w + 8) bytes k 0 l) (fit k)
      | inr l ↦ rw (get_or_past first k 0 (omega (arith, length-take {A = ℕ} (g * w + 8) bytes))) (lit< tt)
    ] in
    let count : (number : ℕ) → length (field_cells w (8 * g) number) ≡ 8 * g = length-field_cells w (8 * g) in
    ext_get_or 0 _ _ (count (bytes_number first) ∙ sym (count (bytes_number bytes))) (λ k l.
    let inside : k < 8 * g = omega (arith, count (bytes_number first)) in
    let before : w * k ≤ w * (8 * g) = mul-le-mul_left w (let m : k ≤ 8 * g = omega arith in m) in
    let same : window_at first (k * w / 8) ≡ window_at bytes (k * w / 8) =
    digits_sum-same 256 (λ j. slice_index first (k * w / 8 + j)) (λ j. slice_index bytes (k * w / 8 + j)) 8 (λ j m. get_or-take (g * w + 8) bytes (k * w / 8 + j) 0 (omega arith)) in
    field_cells-at w (8 * g) (bytes_number first) k inside
    ∙ field_read w k first short fits
    ∙ ap (λ x. x / 2 ^ (k * w % 8) % 2 ^ w) same
    ∙ sym (field_read w k bytes short fit)
    ∙ sym (field_cells-at w (8 * g) (bytes_number bytes) k inside))

-- the lowest of the first m cells that is not below a bound is that of all
pub bad_before : (w m n bound i number : ℕ) → m ≤ n → position (λ c. nat_le bound c) (field_cells w m number) ≡ Some i → position (λ c. nat_le bound c) (field_cells w n number) ≡ Some i
bad_before w m n bound i number l e =
    let test : ℕ → Bool = λ c. nat_le bound c in
    let xs : List ℕ = field_cells w m number in
    let len : length xs ≡ m = length-field_cells w m number in
    let both = found test xs i e in
    bad_at w n bound i number (omega (arith, both.1))
    (λ k h.
    let small : slice_index xs k < bound = leb-false bound _ (fails_before_first test xs k 0 (omega (arith, both.0))) in
    rw (field_cells-at w m number k (omega (arith, both.1))) at small)
    (let large : bound ≤ slice_index xs i = leb-true bound _ (rw both.0 at (passes_at_first test xs 0 (omega (arith, both.0, both.1)))) in
    rw (field_cells-at w m number i (omega (arith, both.1))) at large)

-- if there is none, all are below it
pub none_before : (w m bound : ℕ) (bytes : List ℕ) → position (λ c. nat_le bound c) (field_cells w m (bytes_number bytes)) ≡ None → AreBelow w bound bytes m
none_before w m bound bytes e k l =
    let small = sound_cells w m bound (bytes_number bytes) (all_sound w m bound (bytes_number bytes) e) k (omega (arith, length-field_cells w m (bytes_number bytes))) in
    rw (field_cells-at w m (bytes_number bytes) k l) at small
