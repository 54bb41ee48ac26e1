-- Which carries of a sum show that a cell is not below a bound.
use Rattle.std.specs.Prelude.{◌≡◌, ℕ, zero, suc, ◌+◌, ◌-◌, ◌*◌, ◌/◌, ◌%◌, ◌^◌, ◌<◌, ◌≤◌, List, [], ◌∷◌, length, slice_index, bit_and, bit_or, bit_xor, refl, ◌↔◌}
use Rattle.std.specs.Int.{bit_at}
use Rattle.std.specs.Simd.Lanes.{fold_l, zip2}
use Rattle.std.proofs.Common.{arith, ap, sym, ◌∙◌, inl, inr}
use Rattle.std.proofs.Math.Nat.{add-mul-div_left, div-add-mod, div-eq_of_lt, mod-eq_of_lt, mul-le-mul, mul-le-mul_left, pow-le-pow_right, zero-mul}
use Rattle.std.proofs.lemmas.Bool.{cases_lt}
use Rattle.std.proofs.lemmas.Nat.{mod_below, div_below, pow_pos, one_shl, or_block, or_lt, le_or_l, le_or_r, shr-shr, shr_high}
use Rattle.std.proofs.lemmas.Nat.Bits.{and_pow, bit_at_and, bit_at_cat_low, bit_at_or, bit_at_xor, same_from_bits}
use Rattle.std.proofs.lemmas.Simd.{get_or-zip2, length-zip2}
use Rattle.cm_bits.specs.Held.{AreBelow, carries_of, window_at}
use Rattle.cm_bits.specs.DigitsLaws.{pow_add}
use Rattle.cm_bits.proofs.FieldsLemmas.{IsPairBelow, group_more, pair_below}

-- a carry is what makes a bit of the sum differ from those of the two numbers
carry_at : (x y i : ℕ) → i < 64 → bit_at (carries_of x y) i ≡ (bit_at x i + bit_at y i + bit_at (x + y) i) % 2
carry_at x y i l =
    let parts : (x + y) / 2 ^ 64 * 2 ^ 64 + (x + y) % 2 ^ 64 ≡ x + y = omega arith in
    let low : bit_at ((x + y) % 2 ^ 64) i ≡ bit_at (x + y) i = sym (bit_at_cat_low ((x + y) / 2 ^ 64) 64 ((x + y) % 2 ^ 64) i l) ∙ ap (λ n. bit_at n i) parts in
    bit_at_xor (bit_xor x y) ((x + y) % 2 ^ 64) i ∙ rw (bit_at_xor x y i, low) (omega arith)

-- what is left of the parities of two numbers and of their sum with a third
parity_left : (x y c : ℕ) → (x % 2 + y % 2 + (x + y + c) % 2) % 2 ≡ c % 2
parity_left x y c = omega arith

parity_alone : (x c : ℕ) → (x % 2 + 0 % 2 + (x + c) % 2) % 2 ≡ c % 2
parity_alone x c = omega arith

-- a quotient of a sum
sum_over : (p x y : ℕ) → 0 < p → (x + y) / p ≡ x / p + (x % p + y) / p
sum_over p x y some =
    let whole : x + y ≡ x % p + y + p * (x / p) = omega (arith, div-add-mod x p) in
    ap (λ n. n / p) whole ∙ add-mul-div_left (x % p + y) (x / p) some ∙ omega arith

-- a cell doesn't carry exactly if it is below the bound
no_carry : (p bound r : ℕ) → 0 < p → 0 < bound → bound ≤ p → r < p → ((r + (p - bound)) / p % 2 ≡ 0) ↔ (r < bound)
no_carry p bound r some positive most small =
    let two : (r + (p - bound)) / p < 2 = div_below (r + (p - bound)) p 2 some (omega arith) in
    let rest : (r + (p - bound)) % p < p = mod_below (r + (p - bound)) p some in (
      λ even.
          let none : (r + (p - bound)) / p ≡ 0 = omega arith in
          let whole : p * 0 + (r + (p - bound)) % p ≡ r + (p - bound) = rw none at (div-add-mod (r + (p - bound)) p) in
          omega arith,
      λ below. ap (λ q. q % 2) (div-eq_of_lt (let l : r + (p - bound) < p = omega arith in l)),
    )

-- what is added to a pair if the same is added to each of its cells
abbrev pub added_of : ℕ → ℕ → ℕ
added_of w lack = lack * 2 ^ w + lack

-- the carries out of two cells from bit s on, if the same is added to both; that of the second if the first has none
pair_carries : (w s lack x : ℕ) → lack < 2 ^ w → s + 2 * w < 64
    → (bit_at (carries_of x (added_of w lack * 2 ^ s)) (s + w) ≡ (x / 2 ^ s % 2 ^ w + lack) / 2 ^ w % 2)
    × ((x / 2 ^ s % 2 ^ w + lack) / 2 ^ w ≡ 0 → bit_at (carries_of x (added_of w lack * 2 ^ s)) (s + 2 * w) ≡ (x / 2 ^ (s + w) % 2 ^ w + lack) / 2 ^ w % 2)
pair_carries w s lack x small room =
    let p : ℕ = 2 ^ w in
    let some : 0 < p = pow_pos w in
    let y : ℕ = x / 2 ^ s in
    let a : ℕ = added_of w lack * 2 ^ s in
    let twice : s + 2 * w ≡ s + w + w = omega arith in
    let y1 : x / 2 ^ (s + w) ≡ y / p = sym (shr-shr x s w) in
    let y2 : x / 2 ^ (s + 2 * w) ≡ y / p / p = ap (λ k. x / 2 ^ k) twice ∙ sym (shr-shr x (s + w) w) ∙ ap (λ n. n / p) y1 in
    let a0 : a / 2 ^ s ≡ added_of w lack = ap (λ n. n / 2 ^ s) (let t : a ≡ a + 0 = omega arith in t) ∙ shr_high (added_of w lack) s 0 (pow_pos s) in
    let a1 : a / 2 ^ (s + w) ≡ lack = sym (shr-shr a s w) ∙ ap (λ n. n / p) a0 ∙ shr_high lack w lack small in
    let a2 : a / 2 ^ (s + 2 * w) ≡ 0 = ap (λ k. a / 2 ^ k) twice ∙ sym (shr-shr a (s + w) w) ∙ ap (λ n. n / p) a1 ∙ div-eq_of_lt small in
    let s0 : (x + a) / 2 ^ s ≡ y + added_of w lack = ap (λ n. n / 2 ^ s) (let t : x + a ≡ x + 2 ^ s * added_of w lack = omega arith in t) ∙ add-mul-div_left x (added_of w lack) (pow_pos s) in
    let s1 : (x + a) / 2 ^ (s + w) ≡ y / p + lack + (y % p + lack) / p =
    sym (shr-shr (x + a) s w) ∙ ap (λ n. n / p) s0 ∙ ap (λ n. n / p) (let t : y + added_of w lack ≡ y + lack + p * lack = omega arith in t)
    ∙ add-mul-div_left (y + lack) lack some ∙ ap (λ n. n + lack) (sum_over p y lack some) ∙ omega arith in (
      rw (carry_at x a (s + w) (omega arith), y1, a1, s1) (parity_left (y / p) lack ((y % p + lack) / p)),
      λ none.
          let s2 : (x + a) / 2 ^ (s + 2 * w) ≡ y / p / p + (y / p % p + lack) / p =
          ap (λ k. (x + a) / 2 ^ k) twice ∙ sym (shr-shr (x + a) (s + w) w) ∙ ap (λ n. n / p) (s1 ∙ rw none (omega arith)) ∙ sum_over p (y / p) lack some in
          rw (carry_at x a (s + 2 * w) (omega arith), y2, a2, s2, y1) (parity_alone (y / p / p) ((y / p % p + lack) / p)),
    )

-- neither of two cells from bit s on carries exactly if both are below the bound
pair_clear : (w s bound x : ℕ) → 0 < bound → bound ≤ 2 ^ w → s + 2 * w < 64
    → ((bit_at (carries_of x (added_of w (2 ^ w - bound) * 2 ^ s)) (s + w) ≡ 0) × (bit_at (carries_of x (added_of w (2 ^ w - bound) * 2 ^ s)) (s + 2 * w) ≡ 0))
    ↔ ((x / 2 ^ s % 2 ^ w < bound) × (x / 2 ^ (s + w) % 2 ^ w < bound))
pair_clear w s bound x positive most room =
    let some : 0 < 2 ^ w = pow_pos w in
    let one : ℕ = x / 2 ^ s % 2 ^ w in
    let is = pair_carries w s (2 ^ w - bound) x (omega arith) room in
    let first = no_carry (2 ^ w) bound one some positive most (mod_below _ (2 ^ w) some) in
    let second = no_carry (2 ^ w) bound (x / 2 ^ (s + w) % 2 ^ w) some positive most (mod_below _ (2 ^ w) some) in
    let none : one < bound → (one + (2 ^ w - bound)) / 2 ^ w ≡ 0 = λ below. div-eq_of_lt (omega (arith, below)) in (
      λ clear. (let below = first.0 (sym is.0 ∙ clear.0) in (below, second.0 (sym (is.1 (none below)) ∙ clear.1))),
      λ below. (is.0 ∙ first.1 below.0, is.1 (none below.0) ∙ second.1 below.1),
    )

-- the carries of each lane, from operations on vectors
pub crossed : (cross plus : ℕ → ℕ → ℕ) (xs ys : List ℕ) → zip2 cross (zip2 cross xs ys) (zip2 plus xs ys) ≡ zip2 (λ x y. cross (cross x y) (plus x y)) xs ys
crossed cross plus [] ys = refl
crossed cross plus (x ∷ xs) [] = refl
crossed cross plus (x ∷ xs) (y ∷ ys) = ap (λ (l : List ℕ). cross (cross x y) (plus x y) ∷ l) (crossed cross plus xs ys)

-- a fact of each of four lanes
pub of_four : (P : ℕ → Type 0) → P 0 → P 1 → P 2 → P 3 → (j : ℕ) → j < 4 → P j
of_four P a b c d zero l = a
of_four P a b c d (suc zero) l = b
of_four P a b c d (suc (suc zero)) l = c
of_four P a b c d (suc (suc (suc zero))) l = d
of_four P a b c d (suc (suc (suc (suc j)))) l = absurd (omega arith)

-- the bits after the two cells of a pair
abbrev pub after_of : ℕ → ℕ
after_of w = bit_or (2 ^ w) (2 ^ (2 * w))

-- what is added, as words of 64 bits compute it
pub added_is : (w bound : ℕ) → w ≤ 26 → 0 < bound → bound ≤ 2 ^ w
    → ((1 * 2 ^ w % 2 ^ 64 - bound) * 2 ^ w % 2 ^ 64 + (1 * 2 ^ w % 2 ^ 64 - bound) ≡ added_of w (2 ^ w - bound)) × (added_of w (2 ^ w - bound) < 2 ^ 57)
added_is w bound short positive most =
    let p : 2 ^ w ≤ 2 ^ 26 = pow-le-pow_right (omega arith) {j = 26} short in
    let m : (2 ^ w - bound) * 2 ^ w ≤ 2 ^ 26 * 2 ^ 26 = mul-le-mul (let t : 2 ^ w - bound ≤ 2 ^ 26 = omega arith in t) p in
    let top : (2 ^ w - bound) * 2 ^ w % 2 ^ 64 ≡ (2 ^ w - bound) * 2 ^ w = mod-eq_of_lt (omega arith) in
    (rw (one_shl w 64 (omega arith), top) refl, omega arith)

-- the bits after two cells, likewise
pub after_is : (w : ℕ) → w ≤ 26 → (bit_or (1 * 2 ^ w % 2 ^ 64) (1 * 2 ^ (2 * w) % 2 ^ 64) ≡ after_of w) × (after_of w < 2 ^ 57)
after_is w short =
    let p : 2 ^ w ≤ 2 ^ 52 = pow-le-pow_right (omega arith) {j = 52} (omega arith) in
    let q : 2 ^ (2 * w) ≤ 2 ^ 52 = pow-le-pow_right (omega arith) {j = 52} (omega arith) in
    (rw (one_shl w 64 (omega arith), one_shl (2 * w) 64 (omega arith)) refl, or_lt 57 (2 ^ w) (2 ^ (2 * w)) (omega arith) (omega arith))

-- a number that stays in place, as the first pair does
pub unmoved : (x w : ℕ) → x ≡ x * 2 ^ (2 * 0 * w % 8)
unmoved x w = let e : 2 * 0 * w ≡ 0 = omega arith in rw e (omega arith)

-- a number that is moved by less than a byte
pub moved : (x bit : ℕ) → x < 2 ^ 57 → x * 2 ^ (bit % 8) % 2 ^ 64 ≡ x * 2 ^ (bit % 8)
moved x bit small =
    let most : 2 ^ (bit % 8) ≤ 2 ^ 7 = pow-le-pow_right (omega arith) {j = 7} (omega arith) in
    mod-eq_of_lt (omega (arith, mul-le-mul_left x most))

-- the carries of pair j of group g, if so much is added to each cell
abbrev pub carries_at : List ℕ → ℕ → ℕ → ℕ → ℕ → ℕ
carries_at bytes w lack g j = carries_of (window_at bytes (g * w + 2 * j * w / 8)) (added_of w lack * 2 ^ (2 * j * w % 8))

-- a bit of lane j is 0 exactly if it is 0 in the carries of the pairs j of the groups from the first on and before g
abbrev pub HasCarries : List ℕ → ℕ → ℕ → ℕ → ℕ → List ℕ → Type 0
HasCarries bytes w lack first g found =
    (length found ≡ 4) × ((j : ℕ) → j < 4 → (i : ℕ) → (bit_at (slice_index found j) i ≡ 0) ↔ ((h : ℕ) → first ≤ h → h < g → bit_at (carries_at bytes w lack h j) i ≡ 0))

or_clear : (x y i : ℕ) → (bit_at (bit_or x y) i ≡ 0) ↔ ((bit_at x i ≡ 0) × (bit_at y i ≡ 0))
or_clear x y i = (λ none. omega (arith, bit_at_or x y i, none), λ both. omega (arith, bit_at_or x y i, both.0, both.1))

-- the carries of one group more
pub carries_more : (w lack first g : ℕ) (bytes found windows added : List ℕ) → first ≤ g → HasCarries bytes w lack first g found
    → length windows ≡ 4 → ((j : ℕ) → j < 4 → slice_index windows j ≡ window_at bytes (g * w + 2 * j * w / 8))
    → length added ≡ 4 → ((j : ℕ) → j < 4 → slice_index added j ≡ added_of w lack * 2 ^ (2 * j * w % 8))
    → HasCarries bytes w lack first (g + 1) (zip2 bit_or found (zip2 carries_of windows added))
carries_more w lack first g bytes found windows added order has wide window long add =
    let lanes : length (zip2 carries_of windows added) ≡ 4 = length-zip2 carries_of windows added (wide ∙ sym long) ∙ wide in (
      length-zip2 bit_or found (zip2 carries_of windows added) (has.0 ∙ sym lanes) ∙ has.0,
      λ j l i.
          let here : slice_index (zip2 carries_of windows added) j ≡ carries_at bytes w lack g j =
          get_or-zip2 carries_of windows added j 0 0 0 (omega arith) (omega arith) ∙ rw (window j l, add j l) refl in
          let lane : slice_index (zip2 bit_or found (zip2 carries_of windows added)) j ≡ bit_or (slice_index found j) (carries_at bytes w lack g j) =
          get_or-zip2 bit_or found (zip2 carries_of windows added) j 0 0 0 (omega (arith, has.0)) (omega arith) ∙ ap (bit_or (slice_index found j)) here in
          let both = or_clear (slice_index found j) (carries_at bytes w lack g j) i in
          rw lane (
            λ none h from to. elim (cases_lt h g) [
              | inl m ↦ (has.1 j l i).0 (both.0 none).0 h from m
              | inr m ↦ let same : h ≡ g = omega arith in rw same (both.0 none).1
            ],
            λ all. both.1 ((has.1 j l i).1 (λ h from to. all h from (omega arith)), all g order (omega arith)),
          ),
    )

-- all lanes together are 0 exactly if each lane is
first_zero : (xs : List ℕ) (x : ℕ) → fold_l bit_or x xs ≡ 0 → x ≡ 0
first_zero [] x none = none
first_zero (y ∷ ys) x none = omega (arith, first_zero ys (bit_or x y) none, le_or_l x y)

lane_zero : (xs : List ℕ) (x j : ℕ) → fold_l bit_or x xs ≡ 0 → slice_index xs j ≡ 0
lane_zero [] x j none = refl
lane_zero (y ∷ ys) x zero none = omega (arith, first_zero ys (bit_or x y) none, le_or_r x y)
lane_zero (y ∷ ys) x (suc j) none = lane_zero ys (bit_or x y) j none

all_zero : (xs : List ℕ) → ((j : ℕ) → j < length xs → slice_index xs j ≡ 0) → fold_l bit_or 0 xs ≡ 0
all_zero [] each = refl
all_zero (y ∷ ys) each = ap (λ n. fold_l bit_or (bit_or 0 n) ys) (each 0 (omega arith)) ∙ all_zero ys (λ j l. each (suc j) (omega arith))

-- the bits after two cells from bit s on
after_moved : (w s : ℕ) → after_of w * 2 ^ s ≡ bit_or (2 ^ (s + w)) (2 ^ (s + 2 * w))
after_moved w s =
    let low : 2 ^ w * 2 ^ s + 0 ≡ 2 ^ (s + w) = omega (arith, pow_add 2 s w) in
    let high : 2 ^ (2 * w) * 2 ^ s + 0 ≡ 2 ^ (s + 2 * w) = omega (arith, pow_add 2 s (2 * w)) in
    (let t : after_of w * 2 ^ s ≡ after_of w * 2 ^ s + 0 = omega arith in t) ∙ sym (or_block s (2 ^ w) (2 ^ (2 * w)) 0 0 (pow_pos s) (pow_pos s)) ∙ rw (low, high) refl

and_or : (x a b : ℕ) → bit_and x (bit_or a b) ≡ bit_or (bit_and x a) (bit_and x b)
and_or x a b = same_from_bits _ _ (λ i. omega (arith, bit_at_and x (bit_or a b) i, bit_at_or a b i, bit_at_or (bit_and x a) (bit_and x b) i, bit_at_and x a i, bit_at_and x b i))

-- what a number shares with two bits is 0 exactly if it has neither
two_clear : (x a b : ℕ) → (bit_and x (bit_or (2 ^ a) (2 ^ b)) ≡ 0) ↔ ((bit_at x a ≡ 0) × (bit_at x b ≡ 0))
two_clear x a b =
    let parts : bit_and x (bit_or (2 ^ a) (2 ^ b)) ≡ bit_or (bit_at x a * 2 ^ a) (bit_at x b * 2 ^ b) = and_or x (2 ^ a) (2 ^ b) ∙ rw (and_pow x a, and_pow x b) refl in
    let low : bit_at x a * 1 ≤ bit_at x a * 2 ^ a = mul-le-mul_left (bit_at x a) (pow_pos a) in
    let high : bit_at x b * 1 ≤ bit_at x b * 2 ^ b = mul-le-mul_left (bit_at x b) (pow_pos b) in
    rw parts (
      λ none. omega (arith, none, le_or_l (bit_at x a * 2 ^ a) (bit_at x b * 2 ^ b), le_or_r (bit_at x a * 2 ^ a) (bit_at x b * 2 ^ b)),
      λ both. rw (both.0, both.1, zero-mul (2 ^ a), zero-mul (2 ^ b)) refl,
    )

-- groups more are below a bound
groups_more : (w first bound : ℕ) (bytes : List ℕ) → w ≤ 26 → ((k : ℕ) → slice_index bytes k < 256)
    → AreBelow w bound bytes (8 * first)
    → (count : ℕ)
    → ((g : ℕ) → first ≤ g → g < first + count → (j : ℕ) → j < 4 → IsPairBelow bytes (g * w) (2 * j * w) w bound)
    → AreBelow w bound bytes (8 * (first + count))
groups_more w first bound bytes short fit before zero pairs k l = before k (omega arith)
groups_more w first bound bytes short fit before (suc count) pairs k l =
    let g : ℕ = first + count in
    let here : (j : ℕ) → j < 4 → IsPairBelow bytes (g * w) (2 * j * w) w bound = pairs g (omega arith) (omega arith) in
    let start : 2 * 0 * w ≡ 0 = omega arith in
    group_more w g (g * w) bound bytes short fit refl
    (rw start at (here 0 (omega arith))) (here 1 (omega arith)) (here 2 (omega arith)) (here 3 (omega arith))
    (groups_more w first bound bytes short fit before count (λ h from to. pairs h from (omega arith))) k (omega arith)

-- no cell of a block carries exactly if all are below the bound, as those before it are
pub block_clear : (w first count bound : ℕ) (bytes found after : List ℕ) → w ≤ 26 → 0 < bound → bound ≤ 2 ^ w → ((k : ℕ) → slice_index bytes k < 256)
    → HasCarries bytes w (2 ^ w - bound) first (first + count) found
    → length after ≡ 4 → ((j : ℕ) → j < 4 → slice_index after j ≡ after_of w * 2 ^ (2 * j * w % 8))
    → AreBelow w bound bytes (8 * first)
    → (fold_l bit_or 0 (zip2 bit_and found after) ≡ 0) ↔ AreBelow w bound bytes (8 * (first + count))
block_clear w first count bound bytes found after short positive most fit has long is before =
    let lanes : length (zip2 bit_and found after) ≡ 4 = length-zip2 bit_and found after (has.0 ∙ sym long) ∙ has.0 in
    let lane : (j : ℕ) → j < 4 → slice_index (zip2 bit_and found after) j ≡ bit_and (slice_index found j) (bit_or (2 ^ (2 * j * w % 8 + w)) (2 ^ (2 * j * w % 8 + 2 * w))) =
    λ j l. get_or-zip2 bit_and found after j 0 0 0 (omega (arith, has.0)) (omega arith) ∙ rw (is j l, after_moved w (2 * j * w % 8)) refl in
    let pair = λ (g j : ℕ). pair_clear w (2 * j * w % 8) bound (window_at bytes (g * w + 2 * j * w / 8)) positive most (omega arith) in (
      λ none. groups_more w first bound bytes short fit before count (λ g from to j l.
          let both = (two_clear (slice_index found j) _ _).0 (sym (lane j l) ∙ lane_zero (zip2 bit_and found after) 0 j none) in
          (pair g j).0 ((has.1 j l _).0 both.0 g from to, (has.1 j l _).0 both.1 g from to)),
      λ all. all_zero (zip2 bit_and found after) (λ j inside.
          let l : j < 4 = omega arith in
          let both = λ (g : ℕ) (from : first ≤ g) (to : g < first + count). (pair g j).1 (pair_below w g j bound (first + count) bytes short fit to l all) in
          lane j l ∙ (two_clear (slice_index found j) _ _).1 ((has.1 j l _).1 (λ g from to. (both g from to).0), (has.1 j l _).1 (λ g from to. (both g from to).1))),
    )
