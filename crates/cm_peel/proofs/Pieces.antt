-- Pieces of the lists that peeling keeps.
use Rattle.std.proofs.Common.{◌≡◌, ◌≢◌, ℕ, zero, suc, ◌+◌, ◌<◌, ◌≤◌, true, eqb, List, ◌∷◌, ◌++◌, length, get_or, take, drop, sym, refl, ap, ◌∙◌, inl, inr, arith, length-append, length-drop, nat_cmp}
use Rattle.std.specs.List.{IsDistinct}
use Rattle.std.specs.Ordering.{is_lt}
use Rattle.std.specs.List.Sorted.{IsSorted, IsStrictlyIncreasing}
use Rattle.std.proofs.lemmas.Bool.{cases_lt, lt-ltb, eqb-false, false≢true}
use Rattle.std.proofs.lemmas.Map.Keys.{apart_from_distinct}
use Rattle.std.proofs.lemmas.List.{length-take-le, take-append-le, take_all}
use Rattle.cm_spec.specs.Lists.{numbers_from}

-- a sorted list in which no number stands twice rises
pub rises_sorted : (xs : List ℕ) → IsSorted nat_cmp xs → IsDistinct eqb xs → IsStrictlyIncreasing xs
rises_sorted xs up apart k h =
    let not_less = up k 0 (omega arith) h in
    let differ : get_or xs k 0 ≢ get_or xs (k + 1) 0 = eqb-false _ _ (apart_from_distinct eqb xs k (k + 1) 0 apart (omega arith) h) in
    elim (cases_lt (get_or xs (k + 1) 0) (get_or xs k 0)) [
      | inl less ↦ absurd (false≢true (sym not_less ∙ is_less _ _ less))
      | inr high ↦ omega arith
    ] where
      is_less : (x y : ℕ) → x < y → is_lt (nat_cmp x y) ≡ true
      is_less x y h = rw (lt-ltb x y h) refl

-- what a write to the start of a list leaves there, and how long the list is
pub front_written : {X : Type 0} (new old : List X) (n : ℕ) → length new ≡ n → take n (new ++ drop n old) ≡ new
front_written new old n long = take-append-le n new (drop n old) (omega arith) ∙ take_all n new (omega arith)

pub length_written : {X : Type 0} (new old : List X) (n m : ℕ) → length new ≡ length (take n old) → n ≤ m → length old ≡ m → length (new ++ drop n old) ≡ m
length_written new old n m long few whole =
    let front : length (take n old) ≡ n = length-take-le n old (omega arith) in
    omega (arith, length-append new (drop n old), length-drop n old)

-- numbers one after another
pub numbers-append : (b a n : ℕ) → numbers_from b a ++ numbers_from (b + a) n ≡ numbers_from b (a + n)
numbers-append b zero n = let z : b + 0 ≡ b = omega arith in let y : 0 + n ≡ n = omega arith in rw (z, y) refl
numbers-append b (suc a) n =
    let z : b + suc a ≡ suc b + a = omega arith in
    let y : suc a + n ≡ suc (a + n) = omega arith in
    rw (z, y) (ap (λ xs. b ∷ xs) (numbers-append (suc b) a n))

-- a slice that is written back to its Vec
pub written_back : {X : Type 0} (new old : List X) (n : ℕ) → n ≡ length old → length new ≡ length old → take n (new ++ drop (length new) old) ≡ new
written_back new old n long same =
    let e : n ≡ length new = omega arith in
    ap (λ k. take k (new ++ drop (length new) old)) e ∙ front_written new old (length new) refl
