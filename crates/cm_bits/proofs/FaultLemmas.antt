-- Which fault there is.
use Rattle.std.specs.Prelude.{◌≡◌, ℕ, ◌<◌, ◌≤◌, Bool, true, false, List, length, slice_index, position, Some, None}
use Rattle.std.specs.List.{position_or_len}
use Rattle.std.proofs.Common.{arith, ap, sym, ◌∙◌, inl, inr}
use Rattle.std.proofs.lemmas.Bool.{cases_lt, lt-ltb, le-ltb, cond-true, cond-false}
use Rattle.std.proofs.lemmas.List.Sums.{position_or_len_is}

-- what a search for the first that passes a test shows
pub found : (f : ℕ → Bool) (bs : List ℕ) (k : ℕ) → position f bs ≡ Some k → (position_or_len f bs ≡ k) × (k < length bs)
found f bs k e = elim (cases_lt (position_or_len f bs) (length bs)) [
  | inl a ↦
      let h : Some (position_or_len f bs) ≡ Some k = sym (cond-true _ _ _ (lt-ltb _ _ a)) ∙ e in
      let same : position_or_len f bs ≡ k = cc in
      (same, omega arith)
  | inr a ↦ let h : None ≡ Some k = sym (cond-false _ _ _ (le-ltb _ _ a)) ∙ e in cc
]

pub not_found : (f : ℕ → Bool) (bs : List ℕ) → position f bs ≡ None → length bs ≤ position_or_len f bs
not_found f bs e = elim (cases_lt (position_or_len f bs) (length bs)) [
  | inl a ↦ let h : Some (position_or_len f bs) ≡ None = sym (cond-true _ _ _ (lt-ltb _ _ a)) ∙ e in cc
  | inr a ↦ a
]

-- and what it gives
pub finds : (f : ℕ → Bool) (xs : List ℕ) (k : ℕ) → k < length xs → ((j : ℕ) → j < k → f (slice_index xs j) ≡ false) → f (slice_index xs k) ≡ true → position f xs ≡ Some k
finds f xs k l before here =
    let e : position_or_len f xs ≡ k = position_or_len_is f xs k 0 (omega arith) before (λ m. here) in
    cond-true _ _ _ (lt-ltb (position_or_len f xs) (length xs) (omega arith)) ∙ ap Some e

pub finds_none : (f : ℕ → Bool) (xs : List ℕ) → ((j : ℕ) → j < length xs → f (slice_index xs j) ≡ false) → position f xs ≡ None
finds_none f xs before =
    let e : position_or_len f xs ≡ length xs = position_or_len_is f xs (length xs) 0 (omega arith) before (λ m. absurd (omega arith)) in
    cond-false _ _ _ (le-ltb (position_or_len f xs) (length xs) (omega arith))
