-- Lemmas about numbers by their digits in a base, the lowest first. No contract needs them.
use Rattle.std.specs.Prelude.{◌≡◌, ℕ, zero, suc, ◌+◌, ◌*◌, ◌/◌, ◌%◌, ◌^◌, ◌<◌, ◌≤◌, refl}
use Rattle.std.proofs.Common.{arith, ap, sym, ◌∙◌, inl, inr}
use Rattle.std.proofs.Math.Nat.{pow-zero, pow-suc, pow-succ', div-one, div-div-eq-div-mul, mul-add-div, mul-add-mod_self_left, mod-eq_of_lt, div-eq_of_lt, div-add-mod, mul-le-mul_left}
use Rattle.std.proofs.lemmas.Nat.{div_below}
use Rattle.std.proofs.lemmas.Bool.{cases_eq}
use Rattle.cm_spec.specs.Image.{digits_sum}

-- the lowest digit, and the others one place down
pub digits_sum-first : (d : ℕ) (f : ℕ → ℕ) (n : ℕ) → digits_sum d f (suc n) ≡ f 0 + d * digits_sum d (λ i. f (suc i)) n
unfolding digits_sum
digits_sum-first d f zero = rw (pow-zero d) (omega arith)
digits_sum-first d f (suc n) = rw (pow-succ' d n) (omega (arith, digits_sum-first d f n))

-- equal digits make equal numbers
pub digits_sum-same : (d : ℕ) (f g : ℕ → ℕ) (n : ℕ) → ((i : ℕ) → i < n → f i ≡ g i) → digits_sum d f n ≡ digits_sum d g n
unfolding digits_sum
digits_sum-same d f g zero h = refl
digits_sum-same d f g (suc n) h =
    let e : f n ≡ g n = h n (omega arith) in
    rw e (ap (λ s. s + g n * d ^ n) (digits_sum-same d f g n (λ i l. h i (omega arith))))

-- digits below the base form a number below its power
pub digits_sum-lt : (d : ℕ) (f : ℕ → ℕ) (n : ℕ) → ((i : ℕ) → i < n → f i < d) → digits_sum d f n < d ^ n
unfolding digits_sum
digits_sum-lt d f zero h = rw (pow-zero d) (omega arith)
digits_sum-lt d f (suc n) h =
    let below : digits_sum d f n < d ^ n = digits_sum-lt d f n (λ i l. h i (omega arith)) in
    let top : suc (f n) ≤ d = omega (arith, h n (omega arith)) in
    omega (arith, below, pow-succ' d n, mul-le-mul_left (d ^ n) top)

-- the number without its lowest digit
pub digits_above : (d a x : ℕ) → 0 < d → a < d → (a + d * x) / d ≡ x
digits_above d a x p l =
    let low : (d * x + a) / d ≡ x + a / d = mul-add-div p x a in
    let none : a / d ≡ 0 = div-eq_of_lt l in
    ap (λ m. m / d) (let e : a + d * x ≡ d * x + a = omega arith in e) ∙ low ∙ omega (arith, none)

-- a digit above the lowest is one of the number without it
digit_up : (d a x i : ℕ) → 0 < d → a < d → (a + d * x) / d ^ suc i % d ≡ x / d ^ i % d
digit_up d a x i p l = rw (pow-succ' d i, ← div-div-eq-div-mul (a + d * x) d (d ^ i), digits_above d a x p l) refl

-- the lowest digit
pub digit_lowest : (d a x : ℕ) → a < d → (a + d * x) % d ≡ a
digit_lowest d a x l =
    ap (λ m. m % d) (let e : a + d * x ≡ d * x + a = omega arith in e) ∙ mul-add-mod_self_left d x a ∙ mod-eq_of_lt l

-- digit i of the sum
pub digit-digits_sum : (d : ℕ) (f : ℕ → ℕ) (n i : ℕ) → 0 < d → ((i : ℕ) → i < n → f i < d) → i < n → digits_sum d f n / d ^ i % d ≡ f i
digit-digits_sum d f zero i p h l = absurd (omega arith)
digit-digits_sum d f (suc n) zero p h l =
    rw (digits_sum-first d f n, pow-zero d, div-one) (digit_lowest d (f 0) _ (h 0 l))
digit-digits_sum d f (suc n) (suc i) p h l =
    rw (digits_sum-first d f n)
    (digit_up d (f 0) (digits_sum d (λ i. f (suc i)) n) i p (h 0 (omega arith))
    ∙ digit-digits_sum d (λ i. f (suc i)) n i p (λ j m. h (suc j) (omega arith)) (omega arith))

-- a number is the sum of its digits
pub digits_sum-digits : (d n b : ℕ) → 0 < d → b < d ^ n → digits_sum d (λ i. b / d ^ i % d) n ≡ b
unfolding digits_sum
digits_sum-digits d zero b p h = let one : d ^ 0 ≡ 1 = pow-zero d in omega arith
digits_sum-digits d (suc n) b p h =
    let rest : b / d < d ^ n = div_below b d (d ^ n) p (omega (arith, pow-suc d n)) in
    digits_sum-first d (λ i. b / d ^ i % d) n
    ∙ ap (λ s. b / d ^ 0 % d + d * s)
    (digits_sum-same d (λ i. b / d ^ suc i % d) (λ i. b / d / d ^ i % d) n
    (λ i l. rw (pow-succ' d i, ← div-div-eq-div-mul b d (d ^ i)) refl)
    ∙ digits_sum-digits d n (b / d) p rest)
    ∙ (rw (pow-zero d, div-one) (omega (arith, div-add-mod b d)))

-- digits that are 0 from r on add nothing
pub digits_sum-short : (d : ℕ) (f : ℕ → ℕ) (n r : ℕ) → r ≤ n → ((i : ℕ) → r ≤ i → i < n → f i ≡ 0) → digits_sum d f n ≡ digits_sum d f r
unfolding digits_sum
digits_sum-short d f zero r l h = let e : r ≡ 0 = omega arith in rw e refl
digits_sum-short d f (suc n) r l h = elim (cases_eq r (suc n)) [
  | inl e ↦ rw e refl
  | inr ne ↦
      let top : f n ≡ 0 = h n (omega arith) (omega arith) in
      rw top (omega (arith, digits_sum-short d f n r (omega arith) (λ i a b. h i a (omega arith))))
]

-- the digits of a number in base d
pub same_from_digits : (d n a b : ℕ) → 0 < d → a < d ^ n → b < d ^ n → ((k : ℕ) → k < n → a / d ^ k % d ≡ b / d ^ k % d) → a ≡ b
same_from_digits d n a b p h l e =
    sym (digits_sum-digits d n a p h) ∙ digits_sum-same d _ _ n e ∙ digits_sum-digits d n b p l

-- a power of a sum
pub pow_add : (b m k : ℕ) → b ^ (m + k) ≡ b ^ m * b ^ k
pow_add b m zero = let none : m + 0 ≡ m = omega arith in rw (none, pow-zero b) (omega arith)
pow_add b m (suc k) =
    let more : m + suc k ≡ suc (m + k) = omega arith in
    rw (more, pow-suc b (m + k), pow-suc b k, pow_add b m k) (omega arith)

-- a power of a power
pub pow_pow : (b m k : ℕ) → b ^ (m * k) ≡ (b ^ m) ^ k
pow_pow b m zero = let none : m * 0 ≡ 0 = omega arith in rw (none, pow-zero b, pow-zero (b ^ m)) refl
pow_pow b m (suc k) =
    let more : m * suc k ≡ m * k + m = omega arith in
    rw (more, pow_add b (m * k) m, pow-suc (b ^ m) k) (ap (λ s. s * b ^ m) (pow_pow b m k))

-- more digits above
pub digits_sum-append : (b : ℕ) (f : ℕ → ℕ) (n m : ℕ) → digits_sum b f (n + m) ≡ digits_sum b f n + digits_sum b (λ i. f (n + i)) m * b ^ n
unfolding digits_sum
digits_sum-append b f n zero = let e : n + 0 ≡ n = omega arith in rw e (omega arith)
digits_sum-append b f n (suc m) =
    let e : n + suc m ≡ suc (n + m) = omega arith in
    rw (e, pow_add b n m) (omega (arith, digits_sum-append b f n m))
