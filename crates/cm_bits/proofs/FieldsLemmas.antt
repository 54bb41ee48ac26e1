-- How cells of w bits are written and read.
use Rattle.std.specs.Prelude.{◌≡◌, ℕ, suc, ◌+◌, ◌-◌, ◌*◌, ◌/◌, ◌%◌, ◌^◌, ◌<◌, ◌≤◌, Bool, List, length, slice_index, replicate, set, get_or, nat_le, bit_and, ◌↔◌}
use Rattle.std.specs.List.{position_or_len, range_with_len}
use Rattle.std.proofs.Common.{arith, ap, sym, ◌∙◌, lit<, inl, inr}
use Rattle.std.proofs.Math.Nat.{zero-div, mul_comm, mul-sub, pow-le-pow_right, div-div-eq-div-mul, mod-eq_of_lt, one-le-pow, div-add-mod, mul-le-mul_left, zero-mod}
use Rattle.std.proofs.Math.Pow.{mod-mod-pow}
use Rattle.std.proofs.lemmas.Nat.{mod_below, div_below, field_of, pow_pos}
use Rattle.std.proofs.lemmas.Nat.Bits.{and_high}
use Rattle.std.proofs.lemmas.Bool.{cases_lt, lt-leb, le-leb}
use Rattle.std.proofs.lemmas.List.{ext_get_or, length-set, get_or-set_same, get_or-set_other, length-replicate}
use Rattle.std.proofs.lemmas.List.FromFn.{get_or-range_with_len}
use Rattle.std.proofs.lemmas.List.Sums.{position_or_len_is}
use Rattle.cm_spec.specs.Image.{width_of, fields_len, fields_number, fields_byte}
use Rattle.cm_bits.specs.Bound.{AllBelow}
use Rattle.cm_bits.specs.Fault.{bytes_number, field_cells}
use Rattle.cm_bits.specs.Held.{AreBelow, IsFields, PutsWindow, window_at}
use Rattle.cm_bits.specs.DigitsLaws.{digits_sum-same, digit-digits_sum, digits_sum-digits, pow_add, pow_pow}
use Rattle.cm_bits.specs.FieldsLaws.{length-field_cells, field_cells-at, field_cells-fields_number, fields_number-lt, width-fits}
use Rattle.cm_bits.proofs.DigitsLemmas.{digits_sum-change, digits_sum-zero}
use Rattle.cm_bits.proofs.WindowLemmas.{window_is, number_put, fit_put}
use Rattle.cm_bits.specs.AppendLaws.{cell_of_zeros}
use Rattle.cm_bits.proofs.PackedLemmas.{AllBelow-set}
use Rattle.cm_bits.specs.declared.TheConstants.{MAX_FIELD_BOUND}

-- a field of w bits lies in a window of r bits from word j on
pub field_at : (m w i j s r number window : ℕ) → w * i ≡ m * j + s → s + w ≤ r → window ≡ number / (2 ^ m) ^ j % 2 ^ r → number / (2 ^ w) ^ i % 2 ^ w ≡ window / 2 ^ s % 2 ^ w
field_at m w i j s r number window e l d =
    let place : (2 ^ w) ^ i ≡ (2 ^ m) ^ j * 2 ^ s = sym (pow_pow 2 w i) ∙ ap (λ k. 2 ^ k) e ∙ pow_add 2 (m * j) s ∙ ap (λ k. k * 2 ^ s) (pow_pow 2 m j) in
    let x : ℕ = number / (2 ^ m) ^ j in
    let whole : r ≡ (r - s - w + w) + s = omega arith in
    let cut : x % 2 ^ r / 2 ^ s ≡ x / 2 ^ s % 2 ^ (r - s - w + w) = ap (λ k. x % 2 ^ k / 2 ^ s) whole ∙ field_of x (r - s - w + w) s in
    rw (place, ← div-div-eq-div-mul number ((2 ^ m) ^ j) (2 ^ s), d, cut) (sym (mod-mod-pow (x / 2 ^ s) (r - s - w) w))

-- a field of a number that is below a power is replaced
pub replace_lt : (x s w m v : ℕ) → s + w ≤ m → x < 2 ^ m → v < 2 ^ w → x - x / 2 ^ s % 2 ^ w * 2 ^ s + v * 2 ^ s < 2 ^ m
replace_lt x s w m v l h k =
    let low : x % 2 ^ s < 2 ^ s = mod_below x (2 ^ s) (pow_pos s) in
    let one : 2 ^ s * (x / 2 ^ s) + x % 2 ^ s ≡ x = div-add-mod x (2 ^ s) in
    let two : 2 ^ w * (x / 2 ^ s / 2 ^ w) + x / 2 ^ s % 2 ^ w ≡ x / 2 ^ s = div-add-mod (x / 2 ^ s) (2 ^ w) in
    let more : 2 ^ s * (2 ^ w * (x / 2 ^ s / 2 ^ w) + x / 2 ^ s % 2 ^ w) ≡ 2 ^ s * (x / 2 ^ s) = ap (λ y. 2 ^ s * y) two in
    let split : m ≡ (m - s - w) + (w + s) = omega arith in
    let power : 2 ^ m ≡ 2 ^ (m - s - w) * (2 ^ w * 2 ^ s) = ap (λ k. 2 ^ k) split ∙ pow_add 2 (m - s - w) (w + s) ∙ ap (λ y. 2 ^ (m - s - w) * y) (pow_add 2 w s) in
    let high : x / 2 ^ s / 2 ^ w < 2 ^ (m - s - w) =
    rw (div-div-eq-div-mul x (2 ^ s) (2 ^ w)) (div_below x (2 ^ s * 2 ^ w) (2 ^ (m - s - w)) (rw (← pow_add 2 s w) (pow_pos (s + w))) (omega (arith, power))) in
    let top : 2 ^ w * 2 ^ s * suc (x / 2 ^ s / 2 ^ w) ≤ 2 ^ w * 2 ^ s * 2 ^ (m - s - w) = mul-le-mul_left (2 ^ w * 2 ^ s) (let e : suc (x / 2 ^ s / 2 ^ w) ≤ 2 ^ (m - s - w) = omega arith in e) in
    let part : 2 ^ s * suc v ≤ 2 ^ s * 2 ^ w = mul-le-mul_left (2 ^ s) (let e : suc v ≤ 2 ^ w = omega arith in e) in
    omega arith

pub AllBelow-field_cells : (w n number : ℕ) → AllBelow (2 ^ w) (field_cells w n number)
AllBelow-field_cells w n number k l =
    rw (field_cells-at w n number k (omega (arith, length-field_cells w n number))) (mod_below _ (2 ^ w) (pow_pos w))

-- the cells of a number give it back
pub fields_number-field_cells : (w n number : ℕ) → number < (2 ^ w) ^ n → fields_number w (field_cells w n number) ≡ number
unfolding fields_number
fields_number-field_cells w n number h =
    rw (length-field_cells w n number)
    (digits_sum-same (2 ^ w) _ (λ i. number / (2 ^ w) ^ i % 2 ^ w) n (λ i l. field_cells-at w n number i l)
    ∙ digits_sum-digits (2 ^ w) n number (pow_pos w) h)

-- one cell changed
pub fields_number-set : (w : ℕ) (xs : List ℕ) (i v : ℕ) → i < length xs → fields_number w (set xs i v) + slice_index xs i * (2 ^ w) ^ i ≡ fields_number w xs + v * (2 ^ w) ^ i
unfolding fields_number
fields_number-set w xs i v l =
    let e = digits_sum-change (2 ^ w) (slice_index xs) (slice_index (set xs i v)) (length xs) i l (λ k m ne. get_or-set_other xs i k v 0 ne) in
    rw (length-set xs i v) (rw (get_or-set_same xs i v 0 l) at e)

pub width-is : (b w : ℕ) → 1 ≤ w → w ≤ 27 → ((k : ℕ) → 1 ≤ k → k < w → 2 ^ k < b) → (w < 27 → b ≤ 2 ^ w) → w ≡ width_of b
unfolding width_of
width-is b w low high before at =
    let f : ℕ → Bool = λ w. nat_le b (2 ^ w) in
    let first : position_or_len f (range_with_len 1 26) ≡ w - 1 =
    position_or_len_is f (range_with_len 1 26) (w - 1) 0 (let l : w - 1 ≤ 26 = omega arith in l)
    (λ k l.
    let item : get_or (range_with_len 1 26) k 0 ≡ 1 + k = get_or-range_with_len 1 26 k 0 (omega arith) in
    rw item (lt-leb b _ (before (1 + k) (omega arith) (omega arith))))
    (λ l.
    let small : w - 1 < 26 = l in
    let item : get_or (range_with_len 1 26) (w - 1) 0 ≡ 1 + (w - 1) = get_or-range_with_len 1 26 (w - 1) 0 small in
    let same : 1 + (w - 1) ≡ w = omega arith in
    rw (item, same) (le-leb b _ (at (omega arith)))) in
    omega arith

-- the width of a table that serves its bound
pub width-at : (b w : ℕ) → b ≤ MAX_FIELD_BOUND → w ≡ width_of b → (w ≤ 26) × (b ≤ 2 ^ w) × (0 < w)
width-at b w h e = let f = width-fits b h in (omega (arith, f.1), rw e f.2, omega (arith, f.0))

pub field_inside : (w n number i : ℕ) → i < length (field_cells w n number) → i < n
field_inside w n number i l = omega (arith, length-field_cells w n number)

-- eight bytes can be read from that of a cell on
pub field_room : (w n i : ℕ) (bytes : List ℕ) → length bytes ≡ fields_len w n + 8 → i < n → i * w / 8 + 8 ≤ length bytes
field_room w n i bytes len l =
    let e : w * i ≤ w * n = mul-le-mul_left w (let m : i ≤ n = omega arith in m) in
    omega (arith, len, e)

-- the same of a group of eight cells
pub group_room : (w n g : ℕ) (bytes : List ℕ) → length bytes ≡ fields_len w n + 8 → 8 * g ≤ n → g * w + 8 ≤ length bytes
group_room w n g bytes len l =
    let e : w * (8 * g) ≤ w * n = mul-le-mul_left w l in
    omega (arith, len, e)

-- a cell lies in the eight bytes from that of its lowest bit on
pub field_read : (w i : ℕ) (bytes : List ℕ) → w ≤ 26 → ((k : ℕ) → slice_index bytes k < 256) → bytes_number bytes / (2 ^ w) ^ i % 2 ^ w ≡ window_at bytes (i * w / 8) / 2 ^ (i * w % 8) % 2 ^ w
field_read w i bytes short fit =
    field_at 8 w i (i * w / 8) (i * w % 8) 64 (bytes_number bytes) (window_at bytes (i * w / 8)) (omega arith) (omega arith) (window_is bytes (i * w / 8) fit)

-- the cell after it lies in the same eight bytes
second_read : (w i : ℕ) (bytes : List ℕ) → w ≤ 26 → ((k : ℕ) → slice_index bytes k < 256) → bytes_number bytes / (2 ^ w) ^ (i + 1) % 2 ^ w ≡ window_at bytes (i * w / 8) / 2 ^ (i * w % 8 + w) % 2 ^ w
second_read w i bytes short fit =
    let place : w * (i + 1) ≡ 8 * (i * w / 8) + (i * w % 8 + w) = omega arith in
    field_at 8 w (i + 1) (i * w / 8) (i * w % 8 + w) 64 (bytes_number bytes) (window_at bytes (i * w / 8)) place (omega arith) (window_is bytes (i * w / 8) fit)

-- two cells more are below a bound
pair_more : (w i at bit bound : ℕ) (bytes : List ℕ) → w ≤ 26 → ((k : ℕ) → slice_index bytes k < 256) → at + bit / 8 ≡ i * w / 8 → bit % 8 ≡ i * w % 8
    → (window_at bytes (at + bit / 8) / 2 ^ (bit % 8) % 2 ^ w < bound) × (window_at bytes (at + bit / 8) / 2 ^ (bit % 8 + w) % 2 ^ w < bound)
    → ((j : ℕ) → j < i → bytes_number bytes / (2 ^ w) ^ j % 2 ^ w < bound)
    → (j : ℕ) → j < i + 2 → bytes_number bytes / (2 ^ w) ^ j % 2 ^ w < bound
pair_more w i at bit bound bytes short fit place shift both before j l = elim (cases_lt j i) [
  | inl m ↦ before j m
  | inr m ↦ elim (cases_lt i j) [
    | inl n ↦ let e : j ≡ i + 1 = omega arith in rw (e, second_read w i bytes short fit, ← place, ← shift) both.1
    | inr n ↦ let e : j ≡ i = omega arith in rw (e, field_read w i bytes short fit, ← place, ← shift) both.0
  ]
]

-- both of two cells that begin at a bit of the bytes from one on are below a bound
abbrev pub IsPairBelow : List ℕ → ℕ → ℕ → ℕ → ℕ → Type 0
IsPairBelow bytes at bit w bound = (window_at bytes (at + bit / 8) / 2 ^ (bit % 8) % 2 ^ w < bound) × (window_at bytes (at + bit / 8) / 2 ^ (bit % 8 + w) % 2 ^ w < bound)

-- pair j of a group is below a bound if all cells before some later group are
pub pair_below : (w g j bound m : ℕ) (bytes : List ℕ) → w ≤ 26 → ((k : ℕ) → slice_index bytes k < 256) → g < m → j < 4 → AreBelow w bound bytes (8 * m) → IsPairBelow bytes (g * w) (2 * j * w) w bound
pair_below w g j bound m bytes short fit h l all =
    let i : ℕ = 8 * g + 2 * j in
    let place : g * w + 2 * j * w / 8 ≡ i * w / 8 = omega arith in
    let shift : 2 * j * w % 8 ≡ i * w % 8 = omega arith in
    rw (place, shift, ← field_read w i bytes short fit, ← second_read w i bytes short fit) (all i (omega arith), all (i + 1) (omega arith))

-- a group of eight cells more is below a bound
pub group_more : (w g at bound : ℕ) (bytes : List ℕ) → w ≤ 26 → ((k : ℕ) → slice_index bytes k < 256) → at ≡ g * w
    → IsPairBelow bytes at 0 w bound → IsPairBelow bytes at (2 * w) w bound → IsPairBelow bytes at (4 * w) w bound → IsPairBelow bytes at (6 * w) w bound
    → ((j : ℕ) → j < 8 * g → bytes_number bytes / (2 ^ w) ^ j % 2 ^ w < bound)
    → (j : ℕ) → j < 8 * (g + 1) → bytes_number bytes / (2 ^ w) ^ j % 2 ^ w < bound
group_more w g at bound bytes short fit is a b c d before j l =
    let one = pair_more w (8 * g) at 0 bound bytes short fit (omega (arith, is)) (omega arith) a before in
    let two = pair_more w (8 * g + 2) at (2 * w) bound bytes short fit (omega (arith, is)) (omega arith) b one in
    let three = pair_more w (8 * g + 2 + 2) at (4 * w) bound bytes short fit (omega (arith, is)) (omega arith) c two in
    pair_more w (8 * g + 2 + 2 + 2) at (6 * w) bound bytes short fit (omega (arith, is)) (omega arith) d three j (omega (arith, l))

-- the cell's place in the number
field_unit : (w i : ℕ) → (2 ^ w) ^ i ≡ 256 ^ (i * w / 8) * 2 ^ (i * w % 8)
field_unit w i =
    sym (pow_pow 2 w i)
    ∙ ap (λ k. 2 ^ k) (let t : w * i ≡ 8 * (i * w / 8) + i * w % 8 = omega arith in t)
    ∙ pow_add 2 (8 * (i * w / 8)) (i * w % 8)
    ∙ ap (λ k. k * 2 ^ (i * w % 8)) (pow_pow 2 8 (i * w / 8))

-- what a call owes that writes cell i
pub record FieldSets (w n i v bound : ℕ) (old new : List ℕ) : Type 0 where
  pub cells : field_cells w n (bytes_number new) ≡ set (field_cells w n (bytes_number old)) i v
  pub fields : IsFields w n new
  pub in_bound : AllBelow bound (field_cells w n (bytes_number new))

pub field_sets : (b w n i v put : ℕ) (old new : List ℕ) → b ≤ MAX_FIELD_BOUND → w ≡ width_of b → IsFields w n old → AllBelow b (field_cells w n (bytes_number old)) → put < 2 ^ 64 → i < length (field_cells w n (bytes_number old)) → v < b → put + window_at old (i * w / 8) / 2 ^ (i * w % 8) % 2 ^ w * 2 ^ (i * w % 8) ≡ window_at old (i * w / 8) + v * 2 ^ (i * w % 8) → PutsWindow (i * w / 8) put old new → FieldSets w n i v b old new
field_sets b w n i v put old new h e f all short l m d p =
    let at = width-at b w h e in
    let xs : List ℕ = field_cells w n (bytes_number old) in
    let len : length xs ≡ n = length-field_cells w n (bytes_number old) in
    let j : ℕ = i * w / 8 in
    let s : ℕ = i * w % 8 in
    let window : ℕ = window_at old j in
    let inside : i < n = field_inside w n (bytes_number old) i l in
    let room : j + 8 ≤ length old = field_room w n i old f.len inside in
    let cell : slice_index xs i ≡ window / 2 ^ s % 2 ^ w = field_cells-at w n (bytes_number old) i inside ∙ field_read w i old at.0 f.fit in
    let whole : fields_number w xs ≡ bytes_number old = fields_number-field_cells w n (bytes_number old) f.clear in
    let wrote : bytes_number new + window * 256 ^ j ≡ bytes_number old + put * 256 ^ j = number_put j put old new room short p in
    let scaled : (put + window / 2 ^ s % 2 ^ w * 2 ^ s) * 256 ^ j ≡ (window + v * 2 ^ s) * 256 ^ j = ap (λ y. y * 256 ^ j) d in
    let changed : fields_number w (set xs i v) + slice_index xs i * (2 ^ w) ^ i ≡ fields_number w xs + v * (2 ^ w) ^ i = fields_number-set w xs i v l in
    let traded : fields_number w (set xs i v) + window / 2 ^ s % 2 ^ w * (256 ^ j * 2 ^ s) ≡ bytes_number old + v * (256 ^ j * 2 ^ s) = rw (cell, field_unit w i, whole) at changed in
    let is : bytes_number new ≡ fields_number w (set xs i v) = omega arith in
    let narrow : AllBelow (2 ^ w) (set xs i v) = AllBelow-set (2 ^ w) xs i v (omega (arith, at.1)) (AllBelow-field_cells w n (bytes_number old)) in
    let count : length (set xs i v) ≡ n = length-set xs i v ∙ len in
    let cells : field_cells w n (bytes_number new) ≡ set xs i v = ap (field_cells w n) is ∙ field_cells-fields_number w n (set xs i v) count narrow in
    record {
      cells = cells;
      fields = record {
        len = p.len ∙ f.len;
        fit = fit_put j put old new p f.fit;
        clear = let q = fields_number-lt w (set xs i v) narrow in rw is (rw count at q);
      };
      in_bound = rw cells (AllBelow-set b xs i v m all);
    }

-- byte q of the image is byte q
pub field_byte : (w n q : ℕ) (bytes : List ℕ) → IsFields w n bytes → q < fields_len w n → fields_byte w (field_cells w n (bytes_number bytes)) q ≡ slice_index bytes q
unfolding fields_byte bytes_number
field_byte w n q bytes f l =
    ap (λ x. x / 256 ^ q % 256) (fields_number-field_cells w n (bytes_number bytes) f.clear)
    ∙ digit-digits_sum 256 (slice_index bytes) (length bytes) q (lit< tt) (λ i m. f.fit i) (omega (arith, f.len))

bytes_number-zero : (k : ℕ) → bytes_number (replicate k 0) ≡ 0
unfolding bytes_number
bytes_number-zero k = digits_sum-same 256 _ (λ _. 0) _ (λ i l. cell_of_zeros k i) ∙ digits_sum-zero 256 _

-- zeros are a table of zeros
pub IsFields-zero : (w n len : ℕ) (bytes : List ℕ) → len ≡ fields_len w n + 8 → bytes ≡ replicate len 0 → IsFields w n bytes
IsFields-zero w n len bytes e z = rw z record {
  len = length-replicate {A = ℕ} len 0 ∙ e;
  fit = λ k. rw (cell_of_zeros len k) (lit< tt);
  clear = rw (bytes_number-zero len) (one-le-pow n (2 ^ w) (pow_pos w));
}

pub field_cells-zero : (w n len : ℕ) (bytes : List ℕ) → bytes ≡ replicate len 0 → field_cells w n (bytes_number bytes) ≡ replicate n 0
field_cells-zero w n len bytes z =
    let long : length (replicate {A = ℕ} n 0) ≡ n = length-replicate {A = ℕ} n 0 in
    let count : length (field_cells w n (bytes_number bytes)) ≡ n = length-field_cells w n (bytes_number bytes) in
    ext_get_or 0 _ (replicate n 0) (count ∙ sym long) (λ i l.
    field_cells-at w n _ i (omega arith)
    ∙ rw (z, bytes_number-zero len, zero-div ((2 ^ w) ^ i)) (zero-mod (2 ^ w) ∙ sym (cell_of_zeros n i)))

pub AllBelow-zero : (w n len b : ℕ) (bytes : List ℕ) → 0 < b → bytes ≡ replicate len 0 → AllBelow b (field_cells w n (bytes_number bytes))
AllBelow-zero w n len b bytes h z = rw (field_cells-zero w n len bytes z) (λ k l. rw (cell_of_zeros n k) h)

-- a mask of w bits from bit s on takes the part
pub mask_is : (x s w m : ℕ) → s < 34 → w ≤ 26 → m + 1 ≡ 2 ^ w → bit_and x (m * 2 ^ s % 2 ^ 64) ≡ x / 2 ^ s % 2 ^ w * 2 ^ s
mask_is x s w m low short e =
    let ones : m ≡ 2 ^ w - 1 = omega arith in
    let some : 1 ≤ 2 ^ w = pow_pos w in
    let power : 2 ^ (w + s) ≡ 2 ^ w * 2 ^ s = pow_add 2 w s in
    let wide : 2 ^ (w + s) ≤ 2 ^ 60 = pow-le-pow_right (lit< tt) (let e : w + s ≤ 60 = omega arith in e) in
    let mask : (2 ^ w - 1) * 2 ^ s ≡ 2 ^ (w + s) - 2 ^ s = mul_comm (2 ^ w - 1) (2 ^ s) ∙ mul-sub (2 ^ s) (2 ^ w) 1 ∙ omega arith in
    let fits : (2 ^ w - 1) * 2 ^ s % 2 ^ 64 ≡ 2 ^ (w + s) - 2 ^ s = rw mask (mod-eq_of_lt (omega arith)) in
    rw (ones, fits) (and_high x w s)

-- a value of w bits moved up by s bits fits
pub shifted_is : (v s w : ℕ) → s < 34 → w ≤ 26 → v ≤ 2 ^ w → v * 2 ^ s % 2 ^ 64 ≡ v * 2 ^ s
shifted_is v s w low short h =
    let power : 2 ^ (w + s) ≡ 2 ^ w * 2 ^ s = pow_add 2 w s in
    let wide : 2 ^ (w + s) ≤ 2 ^ 60 = pow-le-pow_right (lit< tt) (let e : w + s ≤ 60 = omega arith in e) in
    let small : 2 ^ s * v ≤ 2 ^ s * 2 ^ w = mul-le-mul_left (2 ^ s) h in
    mod-eq_of_lt (omega arith)

-- a part is below a bound exactly if it is with both shifted up
pub part_below : (x s w m b : ℕ) → s < 34 → w ≤ 26 → m + 1 ≡ 2 ^ w → b ≤ 2 ^ w → (bit_and x (m * 2 ^ s % 2 ^ 64) < b * 2 ^ s % 2 ^ 64) ↔ (x / 2 ^ s % (m + 1) < b)
part_below x s w m b low short e h =
    let p : ℕ = x / 2 ^ s % 2 ^ w in
    let some : 1 ≤ 2 ^ s = pow_pos s in
    let up : p < b → p * 2 ^ s < b * 2 ^ s = λ l. (let more : 2 ^ s * (p + 1) ≤ 2 ^ s * b = mul-le-mul_left (2 ^ s) (let n : p + 1 ≤ b = omega (arith, l) in n) in omega (arith, more, some)) in
    let down : p * 2 ^ s < b * 2 ^ s → p < b = λ l. elim (cases_lt p b) [
      | inl n ↦ n
      | inr n ↦ let less : 2 ^ s * b ≤ 2 ^ s * p = mul-le-mul_left (2 ^ s) n in absurd (omega (arith, less, l))
    ] in
    rw (e, mask_is x s w m low short e, shifted_is b s w low short h) (down, up)

-- a byte of the image is one of the bytes, and no spare one
pub byte_inside : (b w n q : ℕ) (bytes : List ℕ) → w ≡ width_of b → q < fields_len (width_of b) (length (field_cells w n (bytes_number bytes))) → q < fields_len w n
byte_inside b w n q bytes e l = rw (← e, length-field_cells w n (bytes_number bytes)) at l

pub field_byte_at : (b w n q : ℕ) (bytes : List ℕ) → w ≡ width_of b → IsFields w n bytes → q < fields_len w n → slice_index bytes q ≡ fields_byte (width_of b) (field_cells w n (bytes_number bytes)) q
field_byte_at b w n q bytes e f l = rw (← e) (sym (field_byte w n q bytes f l))
