-- Where the first tab of a line stands.
use Rattle.std.proofs.Common.{◌≡◌, ℕ, zero, suc, ◌+◌, ◌<◌, ◌≤◌, List, [], ◌∷◌, length, eqb, true, refl, arith, inl, inr}
use Rattle.std.specs.Prelude.{slice_index}
use Rattle.std.specs.List.{position_or_len}
use Rattle.std.proofs.lemmas.Bool.{cases_Bool}

abbrev first_at : ℕ → List ℕ → ℕ
first_at c line = position_or_len (λ b. eqb b c) line

one_more : {m n : ℕ} → m ≡ n → 1 + m ≡ suc n
one_more is = omega (arith, is)

-- a byte that is the first at which a tab stands
pub at_tab : (c : ℕ) (line : List ℕ) (i : ℕ) → i < length line → ((k : ℕ) → 0 ≤ k → k < i → eqb (slice_index line k) c ≡ true → ⊥) → eqb (slice_index line i) c ≡ true → first_at c line ≡ i
at_tab c [] i inside none here = absurd (omega (arith, inside))
at_tab c (b ∷ line) zero inside none here = rw here refl
at_tab c (b ∷ line) (suc i) inside none here = elim (cases_Bool (eqb b c)) [
  | inl is ↦ absurd (none 0 (omega arith) (omega arith) is)
  | inr other ↦ rw other (one_more (at_tab c line i (omega (arith, inside)) (λ k low high is. none (suc k) (omega arith) (omega (arith, high)) is) here))
]

-- no byte is a tab
pub no_tab : (c : ℕ) (line : List ℕ) → ((k : ℕ) → 0 ≤ k → k < length line → eqb (slice_index line k) c ≡ true → ⊥) → first_at c line ≡ length line
no_tab c [] none = refl
no_tab c (b ∷ line) none = elim (cases_Bool (eqb b c)) [
  | inl is ↦ absurd (none 0 (omega arith) (omega arith) is)
  | inr other ↦ rw other (one_more (no_tab c line (λ k low high is. none (suc k) (omega arith) (omega (arith, high)) is)))
]
