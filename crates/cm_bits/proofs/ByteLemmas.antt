-- The digits of a byte, by trying each byte.
use Rattle.std.specs.Prelude.{◌≡◌, ℕ, ◌+◌, ◌-◌, ◌*◌, ◌/◌, ◌%◌, ◌^◌, ◌<◌, ◌≤◌, Bool, true, false, nat_eq, nat_le, nat_lt, not, bit_and, bit_or, List, position, slice_index, None, refl}
use Rattle.std.proofs.Common.{arith, sym}
use Rattle.std.proofs.lemmas.Bool.{eqb-true, lt-leb, ltb-true}
use Rattle.cm_bits.specs.declared.packings.TheConstants.{DIGITS}
use Rattle.cm_bits.specs.ByteLaws.{all_below, passes}
use Rattle.cm_bits.proofs.FaultLemmas.{finds_none}

passes_both : (f : ℕ → ℕ → Bool) (m n j k : ℕ) → all_below (λ a. all_below (f a) n) m ≡ true → j < m → k < n → f j k ≡ true
passes_both f m n j k e l h = passes (f j) n k (passes (λ a. all_below (f a) n) m j e l) h

passes_all : (f : ℕ → ℕ → ℕ → Bool) (m n o i j k : ℕ) → all_below (λ a. all_below (λ b. all_below (f a b) o) n) m ≡ true → i < m → j < n → k < o → f i j k ≡ true
passes_all f m n o i j k e l h g = passes_both (f i) n o j k (passes (λ a. all_below (λ b. all_below (f a b) o) n) m i e l) h g

-- whether two tests agree
abbrev both_or_neither : Bool → Bool → Bool
both_or_neither true b = b
both_or_neither false b = not b

same_test : (a b : Bool) → both_or_neither a b ≡ true → a ≡ b
same_test true true e = refl
same_test true false e = sym e
same_test false true e = e
same_test false false e = refl

-- a bit of a byte is replaced
pub with_bit : (b i v : ℕ) → b < 256 → i < 8 → v < 2 → bit_or (bit_and b (255 - 1 * 2 ^ i % 256)) (v * 2 ^ i % 256) + b / 2 ^ i % 2 * 2 ^ i ≡ b + v * 2 ^ i
unfolding all_below
with_bit b i v l h k =
    eqb-true _ _ (passes_all (λ b i v. nat_eq (bit_or (bit_and b (255 - 1 * 2 ^ i % 256)) (v * 2 ^ i % 256) + b / 2 ^ i % 2 * 2 ^ i) (b + v * 2 ^ i)) 256 8 2 b i v refl l h k)

-- a pair of bits of a byte is replaced
pub with_crumb : (b i v : ℕ) → b < 256 → i < 4 → v < 4 → bit_or (bit_and b (255 - 3 * 2 ^ (2 * i) % 256)) (v * 2 ^ (2 * i) % 256) + b / 4 ^ i % 4 * 4 ^ i ≡ b + v * 4 ^ i
unfolding all_below
with_crumb b i v l h k =
    eqb-true _ _ (passes_all (λ b i v. nat_eq (bit_or (bit_and b (255 - 3 * 2 ^ (2 * i) % 256)) (v * 2 ^ (2 * i) % 256) + b / 4 ^ i % 4 * 4 ^ i) (b + v * 4 ^ i)) 256 4 4 b i v refl l h k)

-- a pair of bits of a byte
pub crumb_is : (b i : ℕ) → b < 256 → i < 4 → bit_and (b / 2 ^ (2 * i)) 3 ≡ b / 4 ^ i % 4
unfolding all_below
crumb_is b i l h = eqb-true _ _ (passes_both (λ b i. nat_eq (bit_and (b / 2 ^ (2 * i)) 3) (b / 4 ^ i % 4)) 256 4 b i refl l h)

-- what a byte holds from a pair of bits on
pub crumbs_from : (b i : ℕ) → b < 256 → i < 4 → b / 2 ^ (2 * i) ≡ b / 4 ^ i
unfolding all_below
crumbs_from b i l h = eqb-true _ _ (passes_both (λ b i. nat_eq (b / 2 ^ (2 * i)) (b / 4 ^ i)) 256 4 b i refl l h)

-- the table has the digits in base 3
pub trit_is : (b i : ℕ) → b < 256 → i < 5 → bit_and (slice_index DIGITS b / 2 ^ (2 * i)) 3 ≡ b / 3 ^ i % 3
unfolding all_below
trit_is b i l h = eqb-true _ _ (passes_both (λ b i. nat_eq (bit_and (slice_index DIGITS b / 2 ^ (2 * i)) 3) (b / 3 ^ i % 3)) 256 5 b i refl l h)

-- a digit in base 3 replaced leaves a byte
pub with_trit_lt : (b i v : ℕ) → b < 243 → i < 5 → v < 3 → b - b / 3 ^ i % 3 * 3 ^ i + v * 3 ^ i < 243
unfolding all_below
with_trit_lt b i v l h k = ltb-true _ _ (passes_all (λ b i v. nat_lt (b - b / 3 ^ i % 3 * 3 ^ i + v * 3 ^ i) 243) 243 5 3 b i v refl l h k)

pub trit_room : (b i v : ℕ) → b < 243 → i < 5 → v < 3 → v * 3 ^ i < 243
unfolding all_below
trit_room b i v l h k = ltb-true _ _ (passes_both (λ i v. nat_lt (v * 3 ^ i) 243) 5 3 i v refl h k)

-- a byte below what a digit is worth has nothing from that digit on
pub trits_from : (b i : ℕ) → b < 256 → i < 5 → nat_lt b (3 ^ i) ≡ nat_eq (b / 3 ^ i) 0
unfolding all_below
trits_from b i l h = same_test _ _ (passes_both (λ b i. both_or_neither (nat_lt b (3 ^ i)) (nat_eq (b / 3 ^ i) 0)) 256 5 b i refl l h)

-- no byte is at least a number that they are all below
pub none_from : (bytes : List ℕ) (most low : ℕ) → ((k : ℕ) → slice_index bytes k ≤ most) → most < low → position (λ b. nat_le low b) bytes ≡ None
none_from bytes most low h l = finds_none (λ b. nat_le low b) bytes (λ k m. lt-leb low (slice_index bytes k) (omega (arith, h k)))
