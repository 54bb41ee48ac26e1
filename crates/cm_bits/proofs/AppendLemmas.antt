-- Packed cells that are appended to others.
use Rattle.std.specs.Prelude.{◌≡◌, ℕ, ◌+◌, ◌-◌, ◌*◌, ◌<◌, ◌≤◌, ◌++◌, List, length, slice_index, replicate}
use Rattle.std.proofs.Common.{arith, ap, sym, ◌∙◌, inl, inr, refl}
use Rattle.std.proofs.Math.Nat.{mul-add-div, mul-add-mod_self_left, mul-le-mul_left}
use Rattle.std.proofs.lemmas.Bool.{cases_lt}
use Rattle.std.proofs.lemmas.List.{get_or-append-add, get_or-append_right, get_or_append_left, get_or_past, length-append}
use Rattle.cm_spec.specs.Image.{packed_len, packed_byte}
use Rattle.cm_bits.specs.Appending.{filled_up}
use Rattle.cm_bits.specs.AppendLaws.{length-filled_up, zeros_after}
use Rattle.cm_bits.specs.Bound.{AllBelow}
use Rattle.cm_bits.specs.Held.{packed_cells, IsImageOf, IsPacked}
use Rattle.cm_bits.specs.DigitsLaws.{digits_sum-same}
use Rattle.cm_bits.specs.PackedLaws.{AllBelow-packed_cells, held, length-packed_cells, zero_lt}
use Rattle.cm_bits.proofs.PackedLemmas.{image_of, packed_of}

-- how many bytes whole bytes and m further cells take
packed_len-after : (p k m : ℕ) → 0 < p → packed_len p (p * k + m) ≡ k + packed_len p m
packed_len-after p k m q = rw (mul-add-div q k m, mul-add-mod_self_left p k m) (omega arith)

-- the bytes of the cells before, and those of the cells after them
byte_before : (d p q : ℕ) (xs ys : List ℕ) → 0 < p → q < packed_len p (length xs) → packed_byte d p (filled_up p xs ++ ys) q ≡ packed_byte d p xs q
unfolding packed_byte
byte_before d p q xs ys s l =
    digits_sum-same d _ _ p (λ i m.
    let next : p * (q + 1) ≤ p * packed_len p (length xs) = mul-le-mul_left p (omega (arith, l)) in
    get_or_append_left (filled_up p xs) ys 0 (p * q + i) (omega (arith, length-filled_up p xs s, next, m))
    ∙ zeros_after xs (p * packed_len p (length xs) - length xs) (p * q + i))

byte_after : (d p q : ℕ) (xs ys : List ℕ) → 0 < p → packed_byte d p (filled_up p xs ++ ys) (packed_len p (length xs) + q) ≡ packed_byte d p ys q
unfolding packed_byte
byte_after d p q xs ys s =
    digits_sum-same d _ _ p (λ i m.
    let place : p * (packed_len p (length xs) + q) + i ≡ length (filled_up p xs) + (p * q + i) = omega (arith, length-filled_up p xs s) in
    ap (slice_index (filled_up p xs ++ ys)) place ∙ get_or-append-add (filled_up p xs) ys (p * q + i) 0)

image_after : (d p : ℕ) (xs ys bs cs : List ℕ) → 0 < p → IsImageOf d p xs bs → IsImageOf d p ys cs → IsImageOf d p (filled_up p xs ++ ys) (bs ++ cs)
image_after d p xs ys bs cs s v w =
    let long : length (filled_up p xs ++ ys) ≡ p * packed_len p (length xs) + length ys = length-append (filled_up p xs) ys ∙ ap (λ n. n + length ys) (length-filled_up p xs s) in
    record {
      len = length-append bs cs ∙ sym (ap (packed_len p) long ∙ packed_len-after p (packed_len p (length xs)) (length ys) s ∙ let e : packed_len p (length xs) + packed_len p (length ys) ≡ length bs + length cs = omega (arith, v.len, w.len) in e);
      image = λ q l. elim (cases_lt q (length bs)) [
        | inl a ↦ get_or_append_left bs cs 0 q a ∙ v.image q a ∙ sym (byte_before d p q xs ys s (omega (arith, a, v.len)))
        | inr a ↦
            let place : packed_len p (length xs) + (q - length bs) ≡ q = omega (arith, a, v.len) in
            get_or-append_right bs cs (length bs) q 0 refl a
            ∙ w.image (q - length bs) (omega (arith, a, l, length-append bs cs))
            ∙ sym (ap (packed_byte d p (filled_up p xs ++ ys)) (sym place) ∙ byte_after d p (q - length bs) xs ys s)
      ];
    }

zeros_below : (d n : ℕ) (xs : List ℕ) → 0 < d → AllBelow d xs → AllBelow d (xs ++ replicate n 0)
zeros_below d n xs s b k l = rw (zeros_after xs n k) (elim (cases_lt k (length xs)) [
  | inl m ↦ b k m
  | inr m ↦ rw (get_or_past xs k 0 m) s
])

append_below : (d : ℕ) (xs ys : List ℕ) → AllBelow d xs → AllBelow d ys → AllBelow d (xs ++ ys)
append_below d xs ys a b k l = elim (cases_lt k (length xs)) [
  | inl m ↦ rw (get_or_append_left xs ys 0 k m) (a k m)
  | inr m ↦ rw (get_or-append_right xs ys (length xs) k 0 refl m) (b (k - length xs) (omega (arith, l, length-append xs ys)))
]

-- what the bytes of two tables hold, one after the other
pub record Appended (d p n m : ℕ) (bs cs : List ℕ) : Type 0 where
  pub cells : packed_cells d p (p * length bs + m) (bs ++ cs) ≡ filled_up p (packed_cells d p n bs) ++ packed_cells d p m cs
  pub packed : IsPacked d p (p * length bs + m) (bs ++ cs)

pub appended : (d p n m : ℕ) (bs cs : List ℕ) → 2 ≤ d → 0 < p → IsPacked d p n bs → IsPacked d p m cs → Appended d p n m bs cs
appended d p n m bs cs h s v w =
    let xs : List ℕ = packed_cells d p n bs in
    let ys : List ℕ = packed_cells d p m cs in
    let many : length xs ≡ n = length-packed_cells d p n bs in
    let more : length ys ≡ m = length-packed_cells d p m cs in
    let long : length (filled_up p xs ++ ys) ≡ p * length bs + m =
    length-append (filled_up p xs) ys ∙ ap (λ k. k + length ys) (length-filled_up p xs s ∙ ap (λ k. p * packed_len p k) many ∙ ap (λ k. p * k) (sym v.len)) ∙ ap (λ k. p * length bs + k) more in
    let image : IsImageOf d p (filled_up p xs ++ ys) (bs ++ cs) = image_after d p xs ys bs cs s (image_of d p n bs v) (image_of d p m cs w) in
    let below : AllBelow d (filled_up p xs ++ ys) =
    append_below d (filled_up p xs) ys (zeros_below d _ xs (zero_lt d h) (AllBelow-packed_cells d p n bs (zero_lt d h))) (AllBelow-packed_cells d p m cs (zero_lt d h)) in
    let cells : packed_cells d p (p * length bs + m) (bs ++ cs) ≡ filled_up p xs ++ ys = held d p (p * length bs + m) (filled_up p xs ++ ys) (bs ++ cs) (zero_lt d h) s long below image in
    record { cells = cells; packed = packed_of d p (p * length bs + m) (filled_up p xs ++ ys) (bs ++ cs) long cells image }
