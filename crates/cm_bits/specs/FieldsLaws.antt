-- Lemmas about cells of w bits.
use Rattle.std.specs.Prelude.{◌≡◌, ℕ, suc, ◌+◌, ◌*◌, ◌/◌, ◌%◌, ◌^◌, ◌<◌, ◌≤◌, Bool, List, length, slice_index, get_or, refl, nat_le, None}
use Rattle.std.specs.List.{position_or_len, range_with_len}
use Rattle.std.proofs.Common.{arith, ap, sym, ◌∙◌, inl, inr, lit<}
use Rattle.std.proofs.Math.Nat.{div-eq_of_lt, mul-le-mul_left, pow-le-pow_right}
use Rattle.std.proofs.lemmas.Nat.{mod_below, pow_pos}
use Rattle.std.proofs.lemmas.Bool.{cases_lt, leb-true, leb-false, lt-leb}
use Rattle.std.proofs.lemmas.List.{ext_get_or}
use Rattle.std.proofs.lemmas.List.FromFn.{length-map-range_with_len, get_or-map-range_with_len, get_or-range_with_len}
use Rattle.std.proofs.lemmas.List.Sums.{position_or_len_is, fails_before_first, passes_at_first}
use Rattle.cm_spec.specs.Image.{digits_sum, width_of, fields_len, fields_number, fields_byte}
use Rattle.cm_spec.specs.Lists.{list_of}
use Rattle.cm_bits.specs.Bound.{AllBelow}
use Rattle.cm_bits.specs.Fault.{bytes_number, field_cells, fields_fault}
use Rattle.cm_bits.specs.DigitsLaws.{digits_sum-same, digits_sum-lt, digit-digits_sum, digits_sum-digits, same_from_digits, pow_pow}
use Rattle.cm_bits.specs.FaultLaws.{no_fault}
use Rattle.cm_bits.specs.declared.TheConstants.{MAX_CELLS, MAX_FIELD_BOUND}

-- a number is read as n cells
pub length-field_cells : (w n number : ℕ) → length (field_cells w n number) ≡ n
unfolding field_cells
length-field_cells w n number = length-map-range_with_len _ 0 n

-- cell i is the w bits from bit w * i on
pub field_cells-at : (w n number i : ℕ) → i < n → slice_index (field_cells w n number) i ≡ number / (2 ^ w) ^ i % 2 ^ w
unfolding field_cells
field_cells-at w n number i l = get_or-map-range_with_len _ 0 n i i 0 l (omega arith)

-- cells of w bits are below 2 ^ w
pub AllBelow-field_cells : (w n number : ℕ) → AllBelow (2 ^ w) (field_cells w n number)
AllBelow-field_cells w n number k l = rw (field_cells-at w n number k (omega (arith, length-field_cells w n number))) (mod_below _ (2 ^ w) (pow_pos w))

-- fields are no more cells than a table may have
pub field_room_for : (w n number : ℕ) → n ≤ MAX_CELLS → length (field_cells w n number) ≤ MAX_CELLS
field_room_for w n number h = omega (arith, length-field_cells w n number)

-- the number of cells is read as these cells
pub field_cells-fields_number : (w n : ℕ) (xs : List ℕ) → length xs ≡ n → AllBelow (2 ^ w) xs → field_cells w n (fields_number w xs) ≡ xs
unfolding fields_number
field_cells-fields_number w n xs e b =
    ext_get_or 0 _ xs (length-field_cells w n _ ∙ sym e) (λ k l.
    field_cells-at w n _ k (omega (arith, length-field_cells w n (digits_sum (2 ^ w) (slice_index xs) (length xs))))
    ∙ digit-digits_sum (2 ^ w) (slice_index xs) (length xs) k (pow_pos w) b (omega (arith, length-field_cells w n (digits_sum (2 ^ w) (slice_index xs) (length xs)))))

-- n cells of w bits make a number of n * w bits
pub fields_number-lt : (w : ℕ) (xs : List ℕ) → AllBelow (2 ^ w) xs → fields_number w xs < (2 ^ w) ^ length xs
unfolding fields_number
fields_number-lt w xs b = digits_sum-lt (2 ^ w) _ (length xs) b

-- the image has room for the number
pub fields_fit : (w n : ℕ) → (2 ^ w) ^ n ≤ 256 ^ fields_len w n
fields_fit w n =
    let a : (2 ^ w) ^ n ≡ 2 ^ (w * n) = sym (pow_pow 2 w n) in
    let b : 256 ^ fields_len w n ≡ 2 ^ (8 * fields_len w n) = sym (pow_pow 2 8 (fields_len w n)) in
    let l : w * n ≤ 8 * fields_len w n = omega arith in
    rw (a, b) (pow-le-pow_right (lit< tt) l)

-- lists of cells with one number are equal
pub same_fields : (w : ℕ) (xs ys : List ℕ) → length xs ≡ length ys → AllBelow (2 ^ w) xs → AllBelow (2 ^ w) ys → fields_number w xs ≡ fields_number w ys → xs ≡ ys
same_fields w xs ys n a b e =
    sym (field_cells-fields_number w (length xs) xs refl a) ∙ ap (field_cells w (length xs)) e ∙ field_cells-fields_number w (length xs) ys (sym n) b

-- lists of cells of w bits with one length are equal if their images are
pub same_fields_image : (w : ℕ) (xs ys : List ℕ) → length xs ≡ length ys → AllBelow (2 ^ w) xs → AllBelow (2 ^ w) ys → ((q : ℕ) → q < fields_len w (length xs) → fields_byte w xs q ≡ fields_byte w ys q) → xs ≡ ys
unfolding fields_byte
same_fields_image w xs ys n a b e =
    same_fields w xs ys n a b
    (same_from_digits 256 (fields_len w (length xs)) (fields_number w xs) (fields_number w ys) (lit< tt)
    (omega (arith, fields_number-lt w xs a, fields_fit w (length xs)))
    (let same : (2 ^ w) ^ length ys ≡ (2 ^ w) ^ length xs = ap (λ k. (2 ^ w) ^ k) (sym n) in
    omega (arith, fields_number-lt w ys b, fields_fit w (length xs)))
    e)

-- the width of a bound is from 1 to 26, and its numbers serve the bound
pub width-fits : (b : ℕ) → b ≤ MAX_FIELD_BOUND → (1 ≤ width_of b) × (width_of b ≤ 26) × (b ≤ 2 ^ width_of b)
unfolding width_of
width-fits b h =
    let f : ℕ → Bool = λ w. nat_le b (2 ^ w) in
    let first : ℕ = position_or_len f (range_with_len 1 26) in
    elim (cases_lt first 26) [
      | inl a ↦
          let there : first < length (range_with_len 1 26) = a in
          let item : get_or (range_with_len 1 26) first 0 ≡ 1 + first = get_or-range_with_len 1 26 first 0 a in
          (omega arith, omega arith, leb-true b _ (rw item at (passes_at_first f (range_with_len 1 26) 0 there)))
      | inr a ↦
          let last = fails_before_first f (range_with_len 1 26) 25 0 (omega arith) in
          absurd (omega (arith, leb-false b (2 ^ 26) last))
    ]

-- lists of fields with one length and bound are equal if their images are
pub same_fields_bound : (b : ℕ) (xs ys : List ℕ) → b ≤ MAX_FIELD_BOUND → length xs ≡ length ys → AllBelow b xs → AllBelow b ys → ((q : ℕ) → q < fields_len (width_of b) (length xs) → fields_byte (width_of b) xs q ≡ fields_byte (width_of b) ys q) → xs ≡ ys
same_fields_bound b xs ys h n a l e =
    let w = width-fits b h in
    same_fields_image (width_of b) xs ys n (λ k m. omega (arith, a k m, w.2)) (λ k m. omega (arith, l k m, w.2)) e

-- cells that are below the bound have no bad one among them
pub all_fields : (w n bound number : ℕ) → ((k : ℕ) → k < n → number / (2 ^ w) ^ k % 2 ^ w < bound) → n ≤ position_or_len (λ c. nat_le bound c) (field_cells w n number)
all_fields w n bound number h =
    let len : length (field_cells w n number) ≡ n = length-field_cells w n number in
    let e : position_or_len (λ c. nat_le bound c) (field_cells w n number) ≡ n =
    position_or_len_is _ (field_cells w n number) n 0 (omega arith)
    (λ k m. rw (field_cells-at w n number k m) (lt-leb bound _ (h k m)))
    (λ m. absurd (omega arith)) in
    omega arith

-- bytes whose cells are below the bound, with nothing past them, have no fault
pub fields_fault-none : (w n bound : ℕ) (bytes : List ℕ) → ((k : ℕ) → k < n → bytes_number bytes / (2 ^ w) ^ k % 2 ^ w < bound) → bytes_number bytes / (2 ^ w) ^ n ≡ 0 → fields_fault w n bound bytes ≡ None
unfolding fields_fault
fields_fault-none w n bound bytes h l = no_fault n _ _ _ (all_fields w n bound (bytes_number bytes) h) l

-- the number of an image is that of the cells
pub bytes_number-image : (w : ℕ) (xs : List ℕ) → AllBelow (2 ^ w) xs → bytes_number (list_of (fields_byte w xs) (fields_len w (length xs))) ≡ fields_number w xs
unfolding bytes_number fields_byte
bytes_number-image w xs b =
    let len : length (list_of (fields_byte w xs) (fields_len w (length xs))) ≡ fields_len w (length xs) = length-map-range_with_len _ 0 _ in
    rw len
    (digits_sum-same 256 _ (λ q. fields_number w xs / 256 ^ q % 256) (fields_len w (length xs)) (λ i m. get_or-map-range_with_len (fields_byte w xs) 0 (fields_len w (length xs)) i i 0 m (omega arith))
    ∙ digits_sum-digits 256 (fields_len w (length xs)) (fields_number w xs) (lit< tt) (omega (arith, fields_number-lt w xs b, fields_fit w (length xs))))

-- the image of fields below the bound has no fault
pub fields_fault-image : (b : ℕ) (xs : List ℕ) → b ≤ MAX_FIELD_BOUND → AllBelow b xs → fields_fault (width_of b) (length xs) b (list_of (fields_byte (width_of b) xs) (fields_len (width_of b) (length xs))) ≡ None
fields_fault-image b xs h l =
    let f = width-fits b h in
    let all : AllBelow (2 ^ width_of b) xs = λ k m. omega (arith, l k m, f.2) in
    let e = bytes_number-image (width_of b) xs all in
    let n : ℕ = length xs in
    fields_fault-none (width_of b) n b _
    (λ k m. rw e (rw (← field_cells-at (width_of b) n (fields_number (width_of b) xs) k m, field_cells-fields_number (width_of b) n xs refl all) (l k m)))
    (rw e (div-eq_of_lt (fields_number-lt (width_of b) xs all)))

-- a cell has at least one bit, so the byte of its lowest bit is there
pub field_byte_lt : (b n i : ℕ) → i < n → i * width_of b / 8 < fields_len (width_of b) n
unfolding width_of
field_byte_lt b n i l =
    let w : ℕ = width_of b in
    let some : 1 ≤ w = omega arith in
    let e : w * suc i ≤ w * n = mul-le-mul_left w (let m : suc i ≤ n = omega arith in m) in
    omega arith
