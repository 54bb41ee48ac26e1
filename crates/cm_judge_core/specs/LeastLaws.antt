-- The least of some numbers.
use Rattle.std.proofs.Common.{◌≡◌, ◌⊎◌, ℕ, ◌≤◌, List, [], ◌∷◌, min, refl, ap, inl, inr, arith, Some}
use Rattle.std.specs.List.{fold}
use Rattle.cm_judge_verdict.specs.MemberLaws.{In}
use Rattle.cm_judge_verdict.specs.Verdicts.{least}

-- it is the one that is no greater than any
fold_least : (xs : List ℕ) (a n : ℕ) → (a ≡ n) ⊎ In xs n → n ≤ a → ((x : ℕ) → In xs x → n ≤ x) → fold min a xs ≡ n
fold_least [] a n (inl e) low all = e
fold_least [] a n (inr m) low all = absurd m
fold_least (x ∷ xs) a n m low all =
    let here : n ≤ x = all x (inl refl) in
    fold_least xs (min a x) n (step m) (omega arith) (λ y k. all y (inr k))
  where
    step : (a ≡ n) ⊎ (x ≡ n) ⊎ In xs n → (min a x ≡ n) ⊎ In xs n
    step (inl e) = inl (let here : n ≤ x = all x (inl refl) in omega arith)
    step (inr (inl e)) = inl (omega arith)
    step (inr (inr k)) = inr k

pub least_is : (xs : List ℕ) (n : ℕ) → In xs n → ((x : ℕ) → In xs x → n ≤ x) → least xs ≡ Some n
least_is [] n m all = absurd m
least_is (x ∷ xs) n m all = ap (λ z. Some z) (fold_least xs x n m (all x (inl refl)) (λ y k. all y (inr k)))
