-- Lemmas about packed cells. The table of packed cells cites some of them, and no contract needs them.
use Rattle.std.specs.Prelude.{◌≡◌, ℕ, ◌+◌, ◌*◌, ◌/◌, ◌%◌, ◌^◌, ◌<◌, ◌≤◌, min, List, length, slice_index, None, suc, ◌-◌, refl, nat_le}
use Rattle.std.proofs.Common.{arith, ap, sym, ◌∙◌, inl, inr}
use Rattle.std.proofs.Math.Nat.{zero-div, div-eq_of_lt, div-add-mod, div-div-eq-div-mul, div-eq_of_lt-le, mul-le-mul_left, zero-mod}
use Rattle.std.proofs.lemmas.Nat.{mod_below, div_below, div-mul-add, mod-mul-add}
use Rattle.std.proofs.lemmas.Bool.{cases_eq, cases_lt, leb-false}
use Rattle.std.proofs.lemmas.List.{ext_get_or, get_or_past}
use Rattle.std.proofs.lemmas.List.FromFn.{length-map-range_with_len, get_or-map-range_with_len, fill_by_all}
use Rattle.cm_spec.specs.Image.{digits_sum, packed_len, packed_byte}
use Rattle.cm_spec.specs.Lists.{list_of}
use Rattle.cm_bits.specs.Bound.{AllBelow}
use Rattle.cm_bits.specs.Fault.{packed_fault}
use Rattle.cm_bits.specs.Held.{packed_cells, IsPacked, IsImageOf}
use Rattle.cm_bits.specs.DigitsLaws.{digits_sum-lt, digit-digits_sum, digits_sum-short, digits_sum-same, digits_sum-digits, pow_add}
use Rattle.cm_bits.specs.FaultLaws.{no_fault, all_small, sound_fault}
use Rattle.cm_bits.specs.declared.TheConstants.{MAX_CELLS}
use Rattle.std.specs.List.{position_or_len}
use Rattle.std.proofs.lemmas.List.Sums.{fails_before_first}

-- a base of at least 2 is not 0
pub zero_lt : (d : ℕ) → 2 ≤ d → 0 < d
zero_lt d h = omega arith

-- cells below a bound that is the base are below the base
pub at_base : (b d : ℕ) (xs : List ℕ) → b ≡ d → AllBelow b xs → AllBelow d xs
at_base b d xs e h k l = omega (arith, h k l)

-- packed bytes hold n cells
pub length-packed_cells : (d p n : ℕ) (bs : List ℕ) → length (packed_cells d p n bs) ≡ n
unfolding packed_cells
length-packed_cells d p n bs = length-map-range_with_len _ 0 n

-- cell i is digit i mod p of byte i / p
pub packed_cells-at : (d p n : ℕ) (bs : List ℕ) (i : ℕ) → i < n → slice_index (packed_cells d p n bs) i ≡ slice_index bs (i / p) / d ^ (i % p) % d
unfolding packed_cells
packed_cells-at d p n bs i l = get_or-map-range_with_len _ 0 n i i 0 l (omega arith)

-- the cells that packed bytes hold are below the base
pub AllBelow-packed_cells : (d p n : ℕ) (bs : List ℕ) → 0 < d → AllBelow d (packed_cells d p n bs)
AllBelow-packed_cells d p n bs h k l =
    rw (packed_cells-at d p n bs k (omega (arith, length-packed_cells d p n bs))) (mod_below _ d h)

-- packed bytes hold no more cells than a table may have
pub packed_room : (d p n : ℕ) (bs : List ℕ) → n ≤ MAX_CELLS → length (packed_cells d p n bs) ≤ MAX_CELLS
packed_room d p n bs h = omega (arith, length-packed_cells d p n bs)

-- a place past the cells is 0, so each place is below d
pub cell_lt : (d : ℕ) (xs : List ℕ) → 0 < d → AllBelow d xs → (k : ℕ) → slice_index xs k < d
cell_lt d xs p h k = elim (cases_lt k (length xs)) [
  | inl l ↦ h k l
  | inr l ↦ rw (get_or_past xs k 0 l) p
]

-- the bytes have room for the cells
pub le-packed_len : (p n : ℕ) → 0 < p → n ≤ packed_len p n * p
le-packed_len p n h =
    let whole : p * (n / p) + n % p ≡ n = div-add-mod n p in
    let below : n % p < p = mod_below n p h in
    elim (cases_eq (n % p) 0) [
      | inl e ↦ rw e (omega arith)
      | inr ne ↦ let one : min 1 (n % p) ≡ 1 = omega arith in rw one (omega arith)
    ]

-- the byte of a cell is there
pub place_lt : (p n i : ℕ) → 0 < p → i < n → i / p < packed_len p n
place_lt p n i h l = div_below i p (packed_len p n) h (omega (arith, le-packed_len p n h))

-- a cell is a digit of its byte
pub cell_is_digit : (d p : ℕ) (xs : List ℕ) (k : ℕ) → 0 < d → 0 < p → AllBelow d xs → packed_byte d p xs (k / p) / d ^ (k % p) % d ≡ slice_index xs k
unfolding packed_byte
cell_is_digit d p xs k h q b =
    digit-digits_sum d (λ i. slice_index xs (p * (k / p) + i)) p (k % p) h (λ i l. cell_lt d xs h b _) (mod_below k p q)
    ∙ ap (slice_index xs) (div-add-mod k p)

-- lists of packed cells with one length are equal if their bytes are
pub same_packed : (d p : ℕ) (xs ys : List ℕ) → 0 < d → 0 < p → length xs ≡ length ys → AllBelow d xs → AllBelow d ys → ((q : ℕ) → q < packed_len p (length xs) → packed_byte d p xs q ≡ packed_byte d p ys q) → xs ≡ ys
same_packed d p xs ys h q n a b e =
    ext_get_or 0 xs ys n (λ k l.
    sym (cell_is_digit d p xs k h q a)
    ∙ ap (λ x. x / d ^ (k % p) % d) (e (k / p) (place_lt p (length xs) k q l))
    ∙ cell_is_digit d p ys k h q b)

-- a byte of packed cells is below the power of the base that fills it
pub packed_byte-lt : (d p : ℕ) (xs : List ℕ) (q : ℕ) → 0 < d → AllBelow d xs → packed_byte d p xs q < d ^ p
unfolding packed_byte
packed_byte-lt d p xs q h b = digits_sum-lt d _ p (λ i l. cell_lt d xs h b _)

-- the padding of an image is 0
padding-image : (d p : ℕ) (xs : List ℕ) → 0 < d → 0 < p → AllBelow d xs → packed_byte d p xs (length xs / p) / d ^ (length xs % p) ≡ 0
unfolding packed_byte
padding-image d p xs h q b =
    let n : ℕ = length xs in
    let whole : p * (n / p) + n % p ≡ n = div-add-mod n p in
    let below : n % p < p = mod_below n p q in
    let short : digits_sum d (λ i. slice_index xs (p * (n / p) + i)) p ≡ digits_sum d (λ i. slice_index xs (p * (n / p) + i)) (n % p) =
    digits_sum-short d _ p (n % p) (omega arith) (λ i m l. get_or_past xs (p * (n / p) + i) 0 (omega arith)) in
    rw short (div-eq_of_lt (digits_sum-lt d _ (n % p) (λ i l. b (p * (n / p) + i) (omega arith))))

-- packed bytes of cells below the base have no fault
pub packed_fault-image : (d p : ℕ) (xs : List ℕ) → 0 < d → 0 < p → AllBelow d xs → packed_fault d p (length xs) (list_of (packed_byte d p xs) (packed_len p (length xs))) ≡ None
unfolding packed_fault
packed_fault-image d p xs h q b =
    let n : ℕ = length xs in
    let len : length (list_of (packed_byte d p xs) (packed_len p n)) ≡ packed_len p n = length-map-range_with_len (packed_byte d p xs) 0 (packed_len p n) in
    let small : AllBelow (d ^ p) (list_of (packed_byte d p xs) (packed_len p n)) = λ k l.
    rw (get_or-map-range_with_len (packed_byte d p xs) 0 (packed_len p n) k k 0 (omega arith) (omega arith)) (packed_byte-lt d p xs k h b) in
    no_fault n _ _ _
    (rw (all_small (d ^ p) _ small, len) (omega (arith, le-packed_len p n q)))
    (elim (cases_lt (n / p) (packed_len p n)) [
      | inl l ↦ rw (get_or-map-range_with_len (packed_byte d p xs) 0 (packed_len p n) (n / p) (n / p) 0 l (omega arith)) (padding-image d p xs h q b)
      | inr l ↦ rw (get_or_past (list_of (packed_byte d p xs) (packed_len p n)) (n / p) 0 (omega arith)) (zero-div _)
    ])

-- the first cell of a byte that is there is one of the cells
pub first_lt : (p n k : ℕ) → 0 < p → k < packed_len p n → p * k < n
first_lt p n k h l =
    let whole : p * (n / p) + n % p ≡ n = div-add-mod n p in
    elim (cases_lt k (n / p)) [
      | inl a ↦ let e : p * suc k ≤ p * (n / p) = mul-le-mul_left p (let m : suc k ≤ n / p = omega arith in m) in omega arith
      | inr a ↦ let e : k ≡ n / p = omega arith in rw e (omega arith)
    ]

digit_above : (d x r i : ℕ) → r ≤ i → x / d ^ r ≡ 0 → x / d ^ i % d ≡ 0
digit_above d x r i l e =
    let split : i ≡ r + (i - r) = omega arith in
    rw (split, pow_add d r (i - r), ← div-div-eq-div-mul x (d ^ r) (d ^ (i - r)), e, zero-div (d ^ (i - r))) (zero-mod d)

-- each digit of a byte with no fault is a cell, or 0 past the cells
digit_held : (d p n : ℕ) (bs : List ℕ) (k i : ℕ) → 0 < d → 0 < p → length bs ≡ packed_len p n → k < length bs → i < p → slice_index bs (n / p) / d ^ (n % p) ≡ 0 → slice_index (packed_cells d p n bs) (p * k + i) ≡ slice_index bs k / d ^ i % d
digit_held d p n bs k i h q len l m clear = elim (cases_lt (p * k + i) n) [
  | inl a ↦
      let turned : p * k + i ≡ k * p + i = omega arith in
      packed_cells-at d p n bs (p * k + i) a
      ∙ rw (turned, div-mul-add k p i m, mod-mul-add k p i m) refl
  | inr a ↦
      let whole : p * (n / p) + n % p ≡ n = div-add-mod n p in
      let first : p * k < n = first_lt p n k q (omega arith) in
      let at : n / p ≡ k = div-eq_of_lt-le p (omega arith) (omega arith) in
      let above : n % p ≤ i = let e : p * (n / p) ≡ p * k = ap (λ x. p * x) at in omega arith in
      get_or_past (packed_cells d p n bs) (p * k + i) 0 (omega (arith, length-packed_cells d p n bs))
      ∙ sym (digit_above d (slice_index bs k) (n % p) i above (rw at at clear))
]

-- bytes with no fault are packed
pub IsPacked-checked : (d p n : ℕ) (bs : List ℕ) → 0 < d → 0 < p → length bs ≡ packed_len p n → AllBelow (d ^ p) bs → slice_index bs (n / p) / d ^ (n % p) ≡ 0 → IsPacked d p n bs
unfolding packed_byte
IsPacked-checked d p n bs h q len small clear = record {
  len = len;
  image = λ k l.
      sym (digits_sum-same d _ (λ i. slice_index bs k / d ^ i % d) p (λ i m. digit_held d p n bs k i h q len l m clear)
      ∙ digits_sum-digits d p (slice_index bs k) h (small k l));
}

pub IsPacked-sound : (d p n : ℕ) (bs : List ℕ) → 0 < d → 0 < p → length bs ≡ packed_len p n → packed_fault d p n bs ≡ None → IsPacked d p n bs
unfolding packed_fault
IsPacked-sound d p n bs h q len e =
    let first : ℕ = position_or_len (λ b. nat_le (d ^ p) b) bs in
    let both = sound_fault n (p * first) (slice_index bs (n / p) / d ^ (n % p)) (length bs - 1) e in
    let all : length bs ≤ first = elim (cases_lt first (length bs)) [
      | inl a ↦ absurd (omega (arith, both.0, first_lt p n first q (omega arith)))
      | inr a ↦ a
    ] in
    IsPacked-checked d p n bs h q len (λ k l. leb-false (d ^ p) (slice_index bs k) (fails_before_first (λ b. nat_le (d ^ p) b) bs k 0 (omega arith))) both.1

pub image-list : (d p n : ℕ) (bs : List ℕ) → IsPacked d p n bs → bs ≡ list_of (packed_byte d p (packed_cells d p n bs)) (packed_len p n)
image-list d p n bs w = fill_by_all _ bs (packed_len p n) 0 w.len (λ k l. w.image k (omega (arith, w.len)))

-- bytes that are the image of cells hold these
pub held : (d p n : ℕ) (xs bs : List ℕ) → 0 < d → 0 < p → length xs ≡ n → AllBelow d xs → IsImageOf d p xs bs → packed_cells d p n bs ≡ xs
held d p n xs bs h q e b w =
    ext_get_or 0 _ xs (length-packed_cells d p n bs ∙ sym e) (λ k l.
    let within : k < n = omega (arith, length-packed_cells d p n bs) in
    let there : k / p < length bs = omega (arith, w.len, place_lt p (length xs) k q (omega arith)) in
    packed_cells-at d p n bs k within
    ∙ ap (λ x. x / d ^ (k % p) % d) (w.image (k / p) there)
    ∙ cell_is_digit d p xs k h q b)
