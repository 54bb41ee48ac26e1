-- The digits of a number, two by two.
use Rattle.std.proofs.Common.{◌≡◌, ◌∙◌, ℕ, zero, suc, ◌+◌, ◌-◌, ◌*◌, ◌<◌, ◌≤◌, ◌&&◌, Bool, true, eqb, List, drop, get_or, refl, ap, sym, arith, inl, inr}
use Rattle.std.proofs.lemmas.Bool.{and_parts, cases_eq, eqb-true}
use Rattle.std.proofs.lemmas.List.{drop-drop}
use Rattle.cm_keys_made.specs.Texts.{digit_at}
use Rattle.cm_keys_made.specs.declared.lines.TheConstants.{PAIRS}

-- The table has the digits of this number.
abbrev HasPair : ℕ → Type 0
HasPair p = (get_or PAIRS (2 * p) 0 ≡ digit_at p 1) × (get_or PAIRS (2 * p + 1) 0 ≡ digit_at p 0)

are_pairs : ℕ → Bool
are_pairs zero = true
are_pairs (suc p) = (eqb (get_or PAIRS (2 * p) 0) (digit_at p 1) && eqb (get_or PAIRS (2 * p + 1) 0) (digit_at p 0)) && are_pairs p

pair_below : (n p : ℕ) → are_pairs n ≡ true → p < n → HasPair p
unfolding are_pairs
pair_below zero p is lt = absurd (omega (arith, lt))
pair_below (suc n) p is lt =
    let tens = eqb (get_or PAIRS (2 * n) 0) (digit_at n 1) in
    let ones = eqb (get_or PAIRS (2 * n + 1) 0) (digit_at n 0) in
    let both = and_parts (tens && ones) (are_pairs n) is in
    let two = and_parts tens ones both.0 in
    elim (cases_eq p n) [
      | inl h ↦ rw h (eqb-true _ _ two.0, eqb-true _ _ two.1)
      | inr h ↦ pair_below n p both.1 (omega (arith, lt, h))
    ]

pub pair_is : (p : ℕ) → p < 100 → (get_or PAIRS (2 * p) 0 ≡ digit_at p 1) × (get_or PAIRS (2 * p + 1) 0 ≡ digit_at p 0)
unfolding are_pairs
pair_is p lt = pair_below 100 p refl lt

-- If two lists are alike from a place on, they are so from a later one.
pub drop_later : (xs ys : List ℕ) (n m : ℕ) → n ≤ m → drop n xs ≡ drop n ys → drop m xs ≡ drop m ys
drop_later xs ys n m later same =
    let is : n + (m - n) ≡ m = omega arith in
    ap (λ (k : ℕ). drop k xs) (sym is) ∙ sym (drop-drop (m - n) n xs) ∙ ap (drop (m - n)) same ∙ drop-drop (m - n) n ys ∙ ap (λ (k : ℕ). drop k ys) is
