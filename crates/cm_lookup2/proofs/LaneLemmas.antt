-- The lines of lookup2, lane by lane.
use Rattle.std.proofs.Common.{◌≡◌, ◌∙◌, ℕ, ◌+◌, ◌*◌, ◌/◌, ◌%◌, ◌^◌, List, [], ◌∷◌, length, map, ap, sym, refl, replicate, get_or, arith}
use Rattle.std.specs.Prelude.{drop, fold, slice_index, ◌<◌, ◌≤◌, take}
use Rattle.std.specs.Simd.{first_chunks}
use lib.Lanes.{zip2}
use Rattle.std.proofs.lemmas.List.{take_all}
use Rattle.std.proofs.lemmas.List.Sums.{fold_more}
use Rattle.std.proofs.lemmas.Simd.{zip2_splat}
use Rattle.cm_spec.specs.Lookup2.{State, absorb, finish, left_line, list_of_state, mix, plus, right_line, start, three_lines, word_at, words}
use Rattle.cm_lookup2.specs.Four.{by_lanes, states_of}
use Rattle.cm_lookup2.specs.Four.{plus_lanes}
use Rattle.cm_lookup2.specs.declared.Addends.{Addends}

-- a line, from its operations on vectors, of which the last one is on one operand
line : (cross minus : ℕ → ℕ → ℕ) (shift : ℕ → ℕ) (xs ys zs : List ℕ)
    → zip2 cross (zip2 minus (zip2 minus xs ys) zs) (map shift zs) ≡ by_lanes (λ x y z. cross (minus (minus x y) z) (shift z)) xs ys zs
line cross minus shift [] ys zs = refl
line cross minus shift (x ∷ xs) [] zs = refl
line cross minus shift (x ∷ xs) (y ∷ ys) [] = refl
line cross minus shift (x ∷ xs) (y ∷ ys) (z ∷ zs) = ap (λ (l : List ℕ). cross (minus (minus x y) z) (shift z) ∷ l) (line cross minus shift xs ys zs)

-- the same with the shift of four lanes by one number
pub line_of_four : (cross minus shift : ℕ → ℕ → ℕ) (k : ℕ) (xs ys zs : List ℕ) → length zs ≡ 4
    → zip2 cross (zip2 minus (zip2 minus xs ys) zs) (zip2 shift zs (replicate 4 k)) ≡ by_lanes (λ x y z. cross (minus (minus x y) z) (shift z k)) xs ys zs
line_of_four cross minus shift k xs ys zs four =
    ap (zip2 cross (zip2 minus (zip2 minus xs ys) zs)) (zip2_splat shift zs 4 k four) ∙ line cross minus (λ z. shift z k) xs ys zs

-- three lines of each state
pub three_of_each : (i j k : ℕ) (xs ys zs : List ℕ)
    → states_of (by_lanes (right_line i) xs ys zs) (by_lanes (left_line j) ys zs (by_lanes (right_line i) xs ys zs))
    (by_lanes (right_line k) zs (by_lanes (right_line i) xs ys zs) (by_lanes (left_line j) ys zs (by_lanes (right_line i) xs ys zs)))
    ≡ map (three_lines i j k) (states_of xs ys zs)
unfolding three_lines
three_of_each i j k [] ys zs = refl
three_of_each i j k (x ∷ xs) [] zs = refl
three_of_each i j k (x ∷ xs) (y ∷ ys) [] = refl
three_of_each i j k (x ∷ xs) (y ∷ ys) (z ∷ zs) = ap (λ (l : List State). three_lines i j k (record { a = x; b = y; c = z }) ∷ l) (three_of_each i j k xs ys zs)

-- a length that is added modulo 2 ^ 32, with the last word
length_last : (n x y z : ℕ) (t : State) → plus t x y ((z + n % 2 ^ 32) % 2 ^ 32) ≡ plus (plus t 0 0 n) x y z
length_last n x y z t =
    let a : (t.a + x) % 2 ^ 32 ≡ ((t.a + 0) % 2 ^ 32 + x) % 2 ^ 32 = omega arith in
    let b : (t.b + y) % 2 ^ 32 ≡ ((t.b + 0) % 2 ^ 32 + y) % 2 ^ 32 = omega arith in
    let c : (t.c + (z + n % 2 ^ 32) % 2 ^ 32) % 2 ^ 32 ≡ ((t.c + n) % 2 ^ 32 + z) % 2 ^ 32 = omega arith in
    rw a (rw b (rw c refl))

-- what is added lane by lane
pub plus_at : (add : ℕ → ℕ → ℕ) → ((x y : ℕ) → add x y ≡ (x + y) % 2 ^ 32) → (xs ys zs : List ℕ) (ps : List Addends)
    → states_of (zip2 add xs (map (λ (p : Addends). p.a) ps)) (zip2 add ys (map (λ (p : Addends). p.b) ps)) (zip2 add zs (map (λ (p : Addends). p.c) ps)) ≡ plus_lanes (states_of xs ys zs) ps
plus_at add is [] ys zs ps = refl
plus_at add is (x ∷ xs) [] zs [] = refl
plus_at add is (x ∷ xs) [] zs (p ∷ ps) = refl
plus_at add is (x ∷ xs) (y ∷ ys) [] [] = refl
plus_at add is (x ∷ xs) (y ∷ ys) [] (p ∷ ps) = refl
plus_at add is (x ∷ xs) (y ∷ ys) (z ∷ zs) [] = refl
plus_at add is (x ∷ xs) (y ∷ ys) (z ∷ zs) (p ∷ ps) =
    rw (is x p.a) (rw (is y p.b) (rw (is z p.c) (ap (λ (l : List State). plus (record { a = x; b = y; c = z }) p.a p.b p.c ∷ l) (plus_at add is xs ys zs ps))))

-- a key that absorbs one block more
pub block_more : (s : State) (blocks : List (List ℕ)) (i : ℕ) (p : Addends) → i < length blocks
    → p.a ≡ word_at (get_or blocks i []) 0 → p.b ≡ word_at (get_or blocks i []) 4 → p.c ≡ word_at (get_or blocks i []) 8
    → mix (plus (fold absorb s (take i blocks)) p.a p.b p.c) ≡ fold absorb s (take (i + 1) blocks)
unfolding absorb
block_more s blocks i p inside a b c = rw a (rw b (rw c (sym (fold_more absorb s blocks i [] inside))))

-- the hash values of a key, once it has absorbed its blocks
pub words_then : (key rest : List ℕ) (blocks : List (List ℕ)) (seed i : ℕ) (p : Addends) → blocks ≡ first_chunks 12 (length key / 12) key → rest ≡ drop (length key / 12 * 12) key → length blocks ≤ i
    → p.a ≡ word_at rest 0 → p.b ≡ word_at rest 4 → p.c ≡ (256 * slice_index rest 8 + 65536 * slice_index rest 9 + 16777216 * slice_index rest 10 + length key % 2 ^ 32) % 2 ^ 32
    → list_of_state (mix (plus (fold absorb (start seed) (take i blocks)) p.a p.b p.c)) ≡ words key seed
unfolding words finish
words_then key rest blocks seed i p front back all a b c =
    rw a (rw b (rw c (rw (take_all i blocks all) (rw front (rw back (ap (λ (t : State). list_of_state (mix t)) (length_last (length key) _ _ _ _)))))))

-- elements of a list that are the same one by one
pub same_four : {X : Type 0} {p q r t p' q' r' t' : X} → p ≡ p' → q ≡ q' → r ≡ r' → t ≡ t' → p ∷ q ∷ r ∷ t ∷ [] ≡ p' ∷ q' ∷ r' ∷ t' ∷ []
same_four a b c d = rw a (rw b (rw c (rw d refl)))
