-- As many numbers as a bound, all different and below it, are all numbers below it.
use Rattle.std.proofs.Common.{◌≡◌, ◌≢◌, ◌∙◌, ℕ, zero, suc, ◌<◌, List, [], ◌∷◌, length, map, get_or, Bool, true, false, Option, Some, refl, ap, sym, arith, eqb}
use Rattle.std.specs.List.{AllPairs, list_any}
use Rattle.std.specs.Option.{unwrap_or}
use Rattle.std.proofs.lemmas.Bool.{eqb-true, eq-eqb}
use Rattle.std.proofs.lemmas.List.{get_or-map, length-map}
use Rattle.std.proofs.lemmas.List.Folds.{Any-from_list_any, list_any_at}
use Rattle.std.proofs.lemmas.Map.Made.{IsDistinct-from_AllPairs}
use Rattle.std.proofs.lemmas.Map.Steps.{length-le_from_distinct_below}
use Rattle.cm_bdz.specs.Numbering.{AnswersApart}
use Rattle.cm_spec.specs.Built.{key_at}
use Rattle.cm_shards_files.specs.ShardsLaws.{AllAreTaken}

-- numbers that differ, and another one that is none of them
with_another : (n : ℕ) (xs : List ℕ) → list_any (eqb n) xs ≡ false → AllPairs (λ (x y : ℕ). x ≢ y) xs → AllPairs (λ (x y : ℕ). x ≢ y) (n ∷ xs)
with_another n xs none apart zero zero d order inside same = absurd (omega (arith, order))
with_another n xs none apart zero (suc j) d order inside same =
    let found : list_any (eqb n) xs ≡ true = list_any_at (eqb n) xs j d (omega (arith, inside)) (eq-eqb n _ same) in
    absurd (cc (found, none))
with_another n xs none apart (suc i) zero d order inside same = absurd (omega (arith, order))
with_another n xs none apart (suc i) (suc j) d order inside same = apart i j d (omega (arith, order)) (omega (arith, inside)) same

-- they are below a bound, if all are
below_with : (n : ℕ) (xs : List ℕ) (bound : ℕ) → n < bound → ((i : ℕ) → i < length xs → get_or xs i 0 < bound) → (k : ℕ) → k < length (n ∷ xs) → get_or (n ∷ xs) k 0 < bound
below_with n xs bound low below zero inside = low
below_with n xs bound low below (suc k) inside = below k (omega (arith, inside))

same_at : (xs : List ℕ) (i d e : ℕ) → i < length xs → get_or xs i d ≡ get_or xs i e
same_at [] i d e inside = absurd (omega (arith, inside))
same_at (x ∷ xs) zero d e inside = refl
same_at (x ∷ xs) (suc i) d e inside = same_at xs i d e (omega (arith, inside))

-- a number below the bound is among as many that differ
among : (n : ℕ) (xs : List ℕ) (bound : ℕ) → n < bound → AllPairs (λ (x y : ℕ). x ≢ y) xs → ((i : ℕ) → i < length xs → get_or xs i 0 < bound) → length xs ≡ bound → (found : Bool) → list_any (eqb n) xs ≡ found → list_any (eqb n) xs ≡ true
among n xs bound low apart below count true is = is
among n xs bound low apart below count false is =
    let distinct = IsDistinct-from_AllPairs (λ a b. (eqb-true a b, eq-eqb a b)) (n ∷ xs) (with_another n xs is apart) in
    let within : (q : ℕ) → list_any (eqb q) (n ∷ xs) ≡ true → q < bound = λ q any.
    (let there = Any-from_list_any (eqb q) (n ∷ xs) any in
    let is : q ≡ there.1 = eqb-true q there.1 there.4 in
    omega (arith, below_with n xs bound low below there.0 there.2, same_at (n ∷ xs) there.0 there.1 0 there.2, there.3, is)) in
    absurd (omega (arith, length-le_from_distinct_below (n ∷ xs) bound distinct within, count))

-- the number of a key, or 0
abbrev number_of : (List ℕ → Option ℕ) → ℕ × List ℕ → ℕ
number_of f k = unwrap_or (f k.1) 0

abbrev numbers_of : (List ℕ → Option ℕ) → List (ℕ × List ℕ) → List ℕ
numbers_of f keys = map (number_of f) keys

number_at : (keys : List (ℕ × List ℕ)) (f : List ℕ → Option ℕ) (bound i d : ℕ) → AnswersApart keys f bound → i < length keys → (f (key_at keys i) ≡ Some (get_or (numbers_of f keys) i d)) × (get_or (numbers_of f keys) i d < bound)
number_at keys f bound i d apart inside =
    let none : ℕ × List ℕ = (0, []) in
    let got = apart.below i inside in
    let is : get_or (numbers_of f keys) i d ≡ got.0 = get_or-map (number_of f) keys i none d inside ∙ ap (λ (o : Option ℕ). unwrap_or o 0) got.1 in
    (got.1 ∙ ap (λ (n : ℕ). let o : Option ℕ = Some n in o) (sym is), omega (arith, is, got.2))

numbers_differ : (keys : List (ℕ × List ℕ)) (f : List ℕ → Option ℕ) (bound : ℕ) → AnswersApart keys f bound → AllPairs (λ (x y : ℕ). x ≢ y) (numbers_of f keys)
numbers_differ keys f bound apart i j d order inside same =
    let many : length (numbers_of f keys) ≡ length keys = length-map keys (number_of f) in
    let there : j < length keys = omega (arith, inside, many) in
    let here : i < length keys = omega (arith, order, there) in
    let equal = (number_at keys f bound i d apart here).0 ∙ ap (λ (n : ℕ). let o : Option ℕ = Some n in o) same ∙ sym (number_at keys f bound j d apart there).0 in
    omega (arith, order, apart.apart i j here there equal)

pub all_taken : (keys : List (ℕ × List ℕ)) (f : List ℕ → Option ℕ) (bound : ℕ) → AnswersApart keys f bound → length keys ≡ bound → AllAreTaken keys f bound
all_taken keys f bound apart count n low =
    let xs = numbers_of f keys in
    let many : length xs ≡ length keys = length-map keys (number_of f) in
    let below : (i : ℕ) → i < length xs → get_or xs i 0 < bound = λ i inside. (number_at keys f bound i 0 apart (omega (arith, inside, many))).1 in
    let found = among n xs bound low (numbers_differ keys f bound apart) below (many ∙ count) (list_any (eqb n) xs) refl in
    let there = Any-from_list_any (eqb n) xs found in
    let inside : there.0 < length keys = omega (arith, there.2, many) in
    let is : get_or xs there.0 there.1 ≡ n = there.3 ∙ sym (eqb-true n there.1 there.4) in
    (there.0, inside, (number_at keys f bound there.0 there.1 apart inside).0 ∙ ap (λ (m : ℕ). let o : Option ℕ = Some m in o) is)
