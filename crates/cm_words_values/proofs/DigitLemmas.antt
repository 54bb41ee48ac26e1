-- Reading digits one by one.
use Rattle.std.proofs.Common.{rules, ◌≡◌, ◌∙◌, ℕ, ◌+◌, ◌-◌, ◌*◌, ◌^◌, ◌<◌, ◌≤◌, true, false, List, ◌∷◌, length, drop, get_or, arith, ap, sym, add-one, ◌&&◌}
use Rattle.std.proofs.Math.Nat.{pow-suc}
use Rattle.std.proofs.lemmas.List.{drop_more}
use Rattle.std.proofs.lemmas.Str.{digit_value_digit}
use Rattle.std.proofs.lemmas.Nat.{pow-add}
use Rattle.std.proofs.Math.Nat.{mul-le-mul_left}
use Rattle.std.specs.Char.{digit_value, is_ascii_digit}
use Rattle.std.specs.Int.{IsInRange}
use Rattle.std.specs.Str.{all_ascii_digits}
use Rattle.std.specs.Str.Parse.{digits_value, digits_value_after}
use Rattle.std.specs.Prelude.{None, zero, suc}
use Rattle.cm_words_values.specs.Digits.{number_of}

in_range : (d : ℕ) → is_ascii_digit d ≡ true → IsInRange 48 57 d
in_range d h = search rules

next_value : (t : List ℕ) (i v d : ℕ) → is_ascii_digit d ≡ true
    → drop i t ≡ d ∷ drop (i + 1) t
    → digits_value_after 10 v (drop i t) ≡ digits_value 10 t
    → digits_value_after 10 (10 * v + (d - 48)) (drop (i + 1) t) ≡ digits_value 10 t
next_value t i v d digit at h =
    let value : v * 10 + digit_value d ≡ 10 * v + (d - 48) = omega (arith, digit_value_digit d (in_range d digit), in_range d digit) in
    ap (λ n. digits_value_after 10 n (drop (i + 1) t)) (sym value) ∙ sym (ap (digits_value_after 10 v) at) ∙ h

next_digits : (t : List ℕ) (i d : ℕ) → is_ascii_digit d ≡ true
    → drop i t ≡ d ∷ drop (i + 1) t
    → all_ascii_digits (drop i t) ≡ all_ascii_digits t
    → all_ascii_digits (drop (i + 1) t) ≡ all_ascii_digits t
next_digits t i d digit at h =
    sym (ap all_ascii_digits at ∙ ap (λ b. b && all_ascii_digits (drop (i + 1) t)) digit) ∙ h

next_bound : (i v d : ℕ) → is_ascii_digit d ≡ true → v < 10 ^ i → 10 * v + (d - 48) < 10 ^ (i + 1)
next_bound i v d digit h =
    let step : 10 ^ (i + 1) ≡ 10 ^ i * 10 = ap (λ n. 10 ^ n) (add-one i) ∙ pow-suc 10 i in
    omega (arith, step, in_range d digit)

-- what stands after one digit more
pub next_digit : (t : List ℕ) (i v : ℕ) → i < length t → is_ascii_digit (get_or t i 0) ≡ true
    → (digits_value_after 10 v (drop i t) ≡ digits_value 10 t) × (all_ascii_digits (drop i t) ≡ all_ascii_digits t) × (v < 10 ^ i)
    → (digits_value_after 10 (10 * v + (get_or t i 0 - 48)) (drop (i + 1) t) ≡ digits_value 10 t)
    × (all_ascii_digits (drop (i + 1) t) ≡ all_ascii_digits t)
    × (10 * v + (get_or t i 0 - 48) < 10 ^ (i + 1))
next_digit t i v lt digit h =
    let at = drop_more t i 0 lt in
    (next_value t i v _ digit at h.0, next_digits t i _ digit at h.1, next_bound i v _ digit h.2)

-- a byte that is no digit
pub no_digits : (t : List ℕ) (i : ℕ) → i < length t → is_ascii_digit (get_or t i 0) ≡ false
    → all_ascii_digits (drop i t) ≡ all_ascii_digits t → all_ascii_digits t ≡ false
no_digits t i lt other h =
    sym h ∙ ap all_ascii_digits (drop_more t i 0 lt) ∙ ap (λ b. b && all_ascii_digits (drop (i + 1) t)) other

pub number_of-none : (most : ℕ) (t : List ℕ) → all_ascii_digits t ≡ false → None ≡ number_of most t
number_of-none most t h = grind (arith, h)

below : (n p q : ℕ) → n < p → p * q ≡ 1000000 → n * q < 1000000
below n p zero lt is = absurd (omega (arith, is))
below n p (suc q) lt is = omega (arith, is, mul-le-mul_left (suc q) lt)

-- a number of k digits, in units of the place after them
pub scaled : (n s k : ℕ) → n < 10 ^ k → k ≤ 6 → s ≡ 10 ^ (6 - k) → n * s < 1000000
scaled n s k small short is =
    let all : k + (6 - k) ≡ 6 = omega arith in
    let whole : 10 ^ k * 10 ^ (6 - k) ≡ 1000000 = sym (pow-add 10 k (6 - k)) ∙ ap (λ j. 10 ^ j) all in
    rw is (below n _ _ small whole)
