-- Lemmas about tests of each byte. No contract needs them.
use Rattle.std.specs.Prelude.{◌≡◌, ℕ, suc, ◌<◌, zero, Bool, true, ◌&&◌}
use Rattle.std.proofs.Common.{arith, inl, inr}
use Rattle.std.proofs.lemmas.Bool.{cases_eq, and_parts}

-- whether each number below n passes a test
unfoldable pub all_below : (ℕ → Bool) → ℕ → Bool
all_below f zero = true
all_below f (suc n) = f n && all_below f n

pub passes : (f : ℕ → Bool) (n k : ℕ) → all_below f n ≡ true → k < n → f k ≡ true
unfolding all_below
passes f zero k e l = absurd (omega arith)
passes f (suc n) k e l =
    let both = and_parts (f n) (all_below f n) e in
    elim (cases_eq k n) [
      | inl h ↦ rw h both.0
      | inr h ↦ passes f n k both.1 (omega arith)
    ]
