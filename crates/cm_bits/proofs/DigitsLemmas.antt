-- More on numbers by their digits.
use Rattle.std.specs.Prelude.{◌≡◌, ◌≢◌, ℕ, zero, suc, ◌+◌, ◌*◌, ◌^◌, ◌<◌, refl}
use Rattle.std.proofs.Common.{arith, sym, inl, inr}
use Rattle.std.proofs.lemmas.Bool.{cases_eq}
use Rattle.cm_spec.specs.Image.{digits_sum}
use Rattle.cm_bits.specs.DigitsLaws.{digits_sum-same}

-- one digit changed
pub digits_sum-change : (d : ℕ) (f g : ℕ → ℕ) (n k : ℕ) → k < n → ((i : ℕ) → i < n → i ≢ k → g i ≡ f i) → digits_sum d g n + f k * d ^ k ≡ digits_sum d f n + g k * d ^ k
unfolding digits_sum
digits_sum-change d f g zero k l h = absurd (omega arith)
digits_sum-change d f g (suc n) k l h = elim (cases_eq k n) [
  | inl e ↦
      let same : digits_sum d g n ≡ digits_sum d f n = digits_sum-same d g f n (λ i m. h i (omega arith) (omega arith)) in
      rw (e, same) (omega arith)
  | inr ne ↦
      let top : g n ≡ f n = h n (omega arith) (λ e. ne (sym e)) in
      rw top (omega (arith, digits_sum-change d f g n k (omega arith) (λ i m. h i (omega arith))))
]

pub digits_sum-zero : (d p : ℕ) → digits_sum d (λ _. 0) p ≡ 0
unfolding digits_sum
digits_sum-zero d zero = refl
digits_sum-zero d (suc p) = omega (arith, digits_sum-zero d p)
