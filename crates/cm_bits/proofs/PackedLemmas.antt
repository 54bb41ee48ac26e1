-- How packed cells are written and read.
use Rattle.std.specs.Prelude.{◌≡◌, ◌≢◌, ℕ, ◌+◌, ◌*◌, ◌/◌, ◌%◌, ◌^◌, ◌<◌, ◌≤◌, List, length, slice_index, replicate, set}
use Rattle.std.proofs.Common.{arith, ap, sym, ◌∙◌, inl, inr}
use Rattle.std.proofs.Math.Nat.{div-add-mod, mul-le-mul_left, mod-le, div-mul-le_self}
use Rattle.std.proofs.lemmas.Nat.{mod_below, div-mul-add}
use Rattle.std.proofs.lemmas.Bool.{cases_eq}
use Rattle.std.proofs.lemmas.List.{length-set, get_or-set_same, get_or-set_other, length-replicate}
use Rattle.cm_spec.specs.Image.{packed_len, packed_byte}
use Rattle.cm_bits.specs.AppendLaws.{cell_of_zeros}
use Rattle.cm_bits.specs.Bound.{AllBelow}
use Rattle.cm_bits.specs.Held.{packed_cells, IsImageOf, IsPacked}
use Rattle.cm_bits.specs.DigitsLaws.{digits_sum-same}
use Rattle.cm_bits.specs.PackedLaws.{zero_lt, length-packed_cells, packed_cells-at, AllBelow-packed_cells, place_lt, packed_byte-lt, held}
use Rattle.cm_bits.proofs.DigitsLemmas.{digits_sum-change, digits_sum-zero}

pub AllBelow-set : (d : ℕ) (xs : List ℕ) (i v : ℕ) → v < d → AllBelow d xs → AllBelow d (set xs i v)
AllBelow-set d xs i v m h k l =
    let len : length (set xs i v) ≡ length xs = length-set xs i v in
    elim (cases_eq k i) [
      | inl e ↦ let at_i : i < length xs = omega arith in rw (e, get_or-set_same xs i v 0 at_i) m
      | inr ne ↦ rw (get_or-set_other xs i k v 0 ne) (h k (omega arith))
    ]

-- no cell but one of a byte changes
pub packed_byte-set : (d p : ℕ) (xs : List ℕ) (i v : ℕ) → 0 < p → i < length xs → packed_byte d p (set xs i v) (i / p) + slice_index xs i * d ^ (i % p) ≡ packed_byte d p xs (i / p) + v * d ^ (i % p)
unfolding packed_byte
packed_byte-set d p xs i v q l =
    let place : p * (i / p) + i % p ≡ i = div-add-mod i p in
    let e = digits_sum-change d (λ k. slice_index xs (p * (i / p) + k)) (λ k. slice_index (set xs i v) (p * (i / p) + k)) p (i % p)
    (mod_below i p q) (λ k m ne. get_or-set_other xs i _ v 0 (λ h. ne (omega arith))) in
    rw (place, get_or-set_same xs i v 0 l) at e

pub packed_byte-set_other : (d p : ℕ) (xs : List ℕ) (i v j : ℕ) → j ≢ i / p → packed_byte d p (set xs i v) j ≡ packed_byte d p xs j
unfolding packed_byte
packed_byte-set_other d p xs i v j ne =
    digits_sum-same d _ _ p (λ k m. get_or-set_other xs i (p * j + k) v 0 (λ h.
    let turned : j * p + k ≡ i = omega arith in
    ne (sym (ap (λ x. x / p) (sym turned) ∙ div-mul-add j p k m))))

-- the image of the cells that packed bytes hold
pub image_of : (d p n : ℕ) (bs : List ℕ) → IsPacked d p n bs → IsImageOf d p (packed_cells d p n bs) bs
image_of d p n bs w = record { len = w.len ∙ ap (packed_len p) (sym (length-packed_cells d p n bs)); image = w.image }

pub packed_of : (d p n : ℕ) (xs bs : List ℕ) → length xs ≡ n → packed_cells d p n bs ≡ xs → IsImageOf d p xs bs → IsPacked d p n bs
packed_of d p n xs bs e c w = record { len = w.len ∙ ap (packed_len p) e; image = λ q l. rw c (w.image q l) }

-- a cell is written by its byte
pub IsImageOf-set : (d p : ℕ) (xs bs : List ℕ) (i v b : ℕ) → i < length xs → b ≡ packed_byte d p (set xs i v) (i / p) → IsImageOf d p xs bs → IsImageOf d p (set xs i v) (set bs (i / p) b)
IsImageOf-set d p xs bs i v b l e w = record {
  len = length-set bs (i / p) b ∙ w.len ∙ ap (packed_len p) (sym (length-set xs i v));
  image = λ k m.
      let len : length (set bs (i / p) b) ≡ length bs = length-set bs (i / p) b in
      elim (cases_eq k (i / p)) [
        | inl a ↦ let at_i : i / p < length bs = omega arith in rw (a, get_or-set_same bs (i / p) b 0 at_i) e
        | inr ne ↦ rw (get_or-set_other bs (i / p) k b 0 ne, packed_byte-set_other d p xs i v k ne) (w.image k (omega arith))
      ];
}

packed_byte-zero : (d p n q : ℕ) → 0 < d → packed_byte d p (replicate n 0) q ≡ 0
unfolding packed_byte
packed_byte-zero d p n q h =
    digits_sum-same d _ (λ _. 0) p (λ i l. cell_of_zeros n (p * q + i)) ∙ digits_sum-zero d p

pub IsImageOf-zero : (d p n : ℕ) → 0 < d → IsImageOf d p (replicate n 0) (replicate (packed_len p n) 0)
IsImageOf-zero d p n h = record {
  len = length-replicate (packed_len p n) 0 ∙ ap (packed_len p) (sym (length-replicate n 0));
  image = λ q l. cell_of_zeros (packed_len p n) q ∙ sym (packed_byte-zero d p n q h);
}

-- what a call owes that writes cell i
pub record Changes (d p n i v b : ℕ) (bs : List ℕ) : Type 0 where
  pub cells : packed_cells d p n (set bs (i / p) b) ≡ set (packed_cells d p n bs) i v
  pub packed : IsPacked d p n (set bs (i / p) b)
  pub small : b < d ^ p

pub changes : (d p n i v b : ℕ) (bs : List ℕ) → 0 < d → 0 < p → IsPacked d p n bs → i < n → v < d → b + slice_index bs (i / p) / d ^ (i % p) % d * d ^ (i % p) ≡ slice_index bs (i / p) + v * d ^ (i % p) → Changes d p n i v b bs
changes d p n i v b bs h q w l m e =
    let xs : List ℕ = packed_cells d p n bs in
    let len : length xs ≡ n = length-packed_cells d p n bs in
    let below : AllBelow d xs = AllBelow-packed_cells d p n bs h in
    let inside : i < length xs = omega arith in
    let there : i / p < length bs = omega (arith, w.len, place_lt p n i q l) in
    let old : slice_index xs i ≡ slice_index bs (i / p) / d ^ (i % p) % d = packed_cells-at d p n bs i l in
    let was : slice_index bs (i / p) ≡ packed_byte d p xs (i / p) = w.image (i / p) there in
    let is : b ≡ packed_byte d p (set xs i v) (i / p) =
    omega (arith, packed_byte-set d p xs i v q inside, ap (λ x. x * d ^ (i % p)) old) in
    let all : AllBelow d (set xs i v) = AllBelow-set d xs i v m below in
    let image : IsImageOf d p (set xs i v) (set bs (i / p) b) = IsImageOf-set d p xs bs i v b inside is (image_of d p n bs w) in
    let cells : packed_cells d p n (set bs (i / p) b) ≡ set xs i v = held d p n (set xs i v) (set bs (i / p) b) h q (length-set xs i v ∙ len) all image in
    record {
      cells = cells;
      packed = packed_of d p n (set xs i v) (set bs (i / p) b) (length-set xs i v ∙ len) cells image;
      small = rw is (packed_byte-lt d p (set xs i v) (i / p) h all);
    }

pub digit_le : (b w d : ℕ) → b / w % d * w ≤ b
digit_le b w d =
    let a : b / w % d ≤ b / w = mod-le (b / w) d in
    let c : b / w * w ≤ b = div-mul-le_self b w in
    let e : w * (b / w % d) ≤ w * (b / w) = mul-le-mul_left w a in
    omega arith

pub packed_cells-zero : (d p n : ℕ) → 0 < d → 0 < p → packed_cells d p n (replicate (packed_len p n) 0) ≡ replicate n 0
packed_cells-zero d p n h q =
    let len : length (replicate n 0) ≡ n = length-replicate {A = ℕ} n 0 in
    held d p n (replicate n 0) _ h q len (λ k l. rw (cell_of_zeros n k) h) (IsImageOf-zero d p n h)

pub IsPacked-zero : (d p n : ℕ) → 0 < d → 0 < p → IsPacked d p n (replicate (packed_len p n) 0)
IsPacked-zero d p n h q =
    let len : length (replicate n 0) ≡ n = length-replicate {A = ℕ} n 0 in
    packed_of d p n (replicate n 0) _ len (packed_cells-zero d p n h q) (IsImageOf-zero d p n h)

-- a cell of a table, and its byte
pub cell_inside : (d p n i : ℕ) (bs : List ℕ) → i < length (packed_cells d p n bs) → i < n
cell_inside d p n i bs h = omega (arith, length-packed_cells d p n bs)

pub byte_there : (d p n i : ℕ) (bs : List ℕ) → 0 < p → length bs ≡ packed_len p n → i < length (packed_cells d p n bs) → i / p < length bs
byte_there d p n i bs q len h = omega (arith, len, place_lt p n i q (cell_inside d p n i bs h))

-- each byte is one that digits can give
pub byte_whole : (d p n q : ℕ) (bs : List ℕ) → 2 ≤ d → IsPacked d p n bs → q < length bs → slice_index bs q < d ^ p
byte_whole d p n q bs h w l = rw (w.image q l) (packed_byte-lt d p (packed_cells d p n bs) q (zero_lt d h) (AllBelow-packed_cells d p n bs (zero_lt d h)))

pub changed : (d p n i v b : ℕ) (bs : List ℕ) → 2 ≤ d → 0 < p → IsPacked d p n bs → i < length (packed_cells d p n bs) → v < d → b + slice_index bs (i / p) / d ^ (i % p) % d * d ^ (i % p) ≡ slice_index bs (i / p) + v * d ^ (i % p) → Changes d p n i v b bs
changed d p n i v b bs h q w l m e = changes d p n i v b bs (zero_lt d h) q w (cell_inside d p n i bs l) m e
