-- Lemmas about what a round removes and leaves. No contract needs them.
use Rattle.std.proofs.Common.{◌≡◌, ◌⊎◌, ℕ, zero, suc, ◌+◌, ◌<◌, ◌≤◌, Bool, true, false, cond, eqb, ◌&&◌, List, [], ◌∷◌, length, get_or, sym, refl, ap, ◌∙◌, inl, inr, arith, leb, not, length-append}
use Rattle.std.specs.List.{filter, list_all}
use Rattle.std.proofs.lemmas.Bool.{both_ways, cases_Bool, cases_lt, eq-eqb, or_left, or_right, false≢true, and_parts, and_from, le-leb, and_right, cond-false}
use Rattle.std.proofs.lemmas.List.Sums.{prefix_len_is}
use Rattle.cm_spec.specs.Lists.{has}
use Rattle.cm_spec.specs.Graph.{touches, places, ends_at, degree_in}
use Rattle.cm_spec.specs.Rounds.{is_left, is_held, left_after, rest_of, removed_after, level_of, order_upto}
use Rattle.cm_peel.specs.SetLaws.{has-filter, Rises, Rises-filter, has-numbers, has-numbers_high, length-numbers, count_by_some, get_or-numbers}
use Rattle.cm_peel.specs.CoreLaws.{left_after-zero, left_after-suc, left_after_is, left_after_rises, IsStable, stable_stays}

-- what is left, by membership
pub has_left : (edges : List (List ℕ)) (t e : ℕ) → has (left_after edges t) e ≡ (has (places edges) e && is_left edges t e)
has_left edges t e = ap (λ s. has s e) (left_after_is edges t) ∙ has-filter (is_left edges t) (places edges) e

pub has_place : (edges : List (List ℕ)) (e : ℕ) → e < length edges → has (places edges) e ≡ true
has_place edges e h = has-numbers 0 (length edges) e (omega arith) (omega arith)

pub place_below : (edges : List (List ℕ)) (e : ℕ) → has (places edges) e ≡ true → e < length edges
place_below edges e h = omega (arith, has-numbers_high 0 (length edges) e h)

pub has_left_from : (edges : List (List ℕ)) (t e : ℕ) → e < length edges → is_left edges t e ≡ true → has (left_after edges t) e ≡ true
has_left_from edges t e h m = has_left edges t e ∙ and_from _ _ (has_place edges e h) m

pub is_left_from : (edges : List (List ℕ)) (t e : ℕ) → has (left_after edges t) e ≡ true → (e < length edges) × (is_left edges t e ≡ true)
is_left_from edges t e m =
    let both = and_parts (has (places edges) e) (is_left edges t e) (sym (has_left edges t e) ∙ m) in
    (place_below edges e both.0, both.1)

-- an end of an edge that is left has a degree
pub degree_some : (edges : List (List ℕ)) (t e v : ℕ) → has (left_after edges t) e ≡ true → touches v (ends_at edges e) ≡ true → 1 ≤ degree_in edges (left_after edges t) v
degree_some edges t e v m h = count_by_some (λ e. touches v (ends_at edges e)) (left_after edges t) e m h

pub has_removed : (edges : List (List ℕ)) (t e : ℕ) → has (removed_after edges t) e ≡ (has (left_after edges t) e && not (is_held edges (left_after edges t) e))
has_removed edges t e = has-filter (λ e. not (is_held edges (left_after edges t) e)) (left_after edges t) e

-- an edge that is removed next has an end of degree one
pub not_held_end : (d : ℕ → ℕ) (ends : List ℕ) → not (list_all (λ v. leb 2 (d v)) ends) ≡ true → (v : ℕ) × (has ends v ≡ true) × (d v < 2)
not_held_end d [] h = absurd (false≢true h)
not_held_end d (x ∷ xs) h = go (cases_lt (d x) 2) (not_held_end d xs) where
  go : (d x < 2) ⊎ (2 ≤ d x) → (not (list_all (λ v. leb 2 (d v)) xs) ≡ true → (v : ℕ) × (has xs v ≡ true) × (d v < 2)) → (v : ℕ) × (has (x ∷ xs) v ≡ true) × (d v < 2)
  go (inl few) ih = (x, or_left (eqb x x) (has xs x) (eq-eqb x x refl), few)
  go (inr many) ih =
      let r = ih (sym (ap (λ b. not (b && list_all (λ v. leb 2 (d v)) xs)) (le-leb 2 (d x) many)) ∙ h) in
      (r.0, or_right (eqb x r.0) (has xs r.0) r.1, r.2)

pub removed_rises : (edges : List (List ℕ)) (t : ℕ) → Rises 0 (removed_after edges t)
removed_rises edges t = Rises-filter (λ e. not (is_held edges (left_after edges t) e)) 0 (left_after edges t) (left_after_rises edges t)

pub removed_is_left : (edges : List (List ℕ)) (t e : ℕ) → has (removed_after edges t) e ≡ true → has (left_after edges t) e ≡ true
removed_is_left edges t e m = (and_parts _ _ (sym (has_removed edges t e) ∙ m)).0

-- what is left was left before
pub is_left_before : (edges : List (List ℕ)) (t k e : ℕ) → k ≤ t → is_left edges t e ≡ true → is_left edges k e ≡ true
is_left_before edges zero k e h m = let z : k ≡ 0 = omega arith in rw z refl
is_left_before edges (suc t) k e h m = go (cases_lt k (suc t)) (is_left_before edges t k e) where
  go : (k < suc t) ⊎ (suc t ≤ k) → (k ≤ t → is_left edges t e ≡ true → is_left edges k e ≡ true) → is_left edges k e ≡ true
  go (inl low) ih = ih (omega arith) (and_parts (is_left edges t e) _ m).0
  go (inr high) ih = let s : k ≡ suc t = omega arith in rw s m

pub not_left_later : (edges : List (List ℕ)) (t k e : ℕ) → k ≤ t → is_left edges k e ≡ false → is_left edges t e ≡ false
not_left_later edges t k e h gone = go (cases_Bool (is_left edges t e)) where
  go : (is_left edges t e ≡ true) ⊎ (is_left edges t e ≡ false) → is_left edges t e ≡ false
  go (inl still) = absurd (both_ways _ gone (is_left_before edges t k e h still))
  go (inr fell) = fell

pub has_left_not : (edges : List (List ℕ)) (t e : ℕ) → is_left edges t e ≡ false → has (left_after edges t) e ≡ false
has_left_not edges t e gone = has_left edges t e ∙ and_right (has (places edges) e) (is_left edges t e) gone

-- the level of an edge that a round removes
pub level_is : (edges : List (List ℕ)) (t e : ℕ) → e < length edges → t < length edges → is_left edges t e ≡ true → is_left edges (suc t) e ≡ false → level_of edges e ≡ suc t
level_is edges t e h few before after =
    let n : ℕ = length edges in
    let gone : has (rest_of edges) e ≡ false = has_left_not edges n e (not_left_later edges n (suc t) e (omega arith) after) in
    let p : ℕ → Bool = λ t. has (left_after edges t) e in
    let long : length (places edges) ≡ n = length-numbers 0 n in
    cond-false _ _ _ gone ∙ prefix_len_is p (places edges) (suc t) 0 (omega arith)
    (λ k m.
    let at : get_or (places edges) k 0 ≡ k = get_or-numbers 0 n k (omega arith) ∙ omega arith in
    rw at (has_left_from edges k e h (is_left_before edges t k e (omega arith) before)))
    (λ m.
    let at : get_or (places edges) (suc t) 0 ≡ suc t = get_or-numbers 0 n (suc t) (omega arith) ∙ omega arith in
    rw at (has_left_not edges (suc t) e after))

-- how many are left and removed
pub filter_both : (p : ℕ → Bool) (xs : List ℕ) → length (filter p xs) + length (filter (λ e. not (p e)) xs) ≡ length xs
filter_both p [] = refl
filter_both p (x ∷ xs) = go (p x) (filter_both p xs) where
  go : (b : Bool) → length (filter p xs) + length (filter (λ e. not (p e)) xs) ≡ length xs → length (cond b (x ∷ filter p xs) (filter p xs)) + length (cond (not b) (x ∷ filter (λ e. not (p e)) xs) (filter (λ e. not (p e)) xs)) ≡ suc (length xs)
  go true h = omega arith
  go false h = omega arith

pub length-left : (edges : List (List ℕ)) (t : ℕ) → length (left_after edges (suc t)) + length (removed_after edges t) ≡ length (left_after edges t)
length-left edges t = ap (λ (s : List ℕ). length s + length (removed_after edges t)) (left_after-suc edges t) ∙ filter_both (is_held edges (left_after edges t)) (left_after edges t)

pub length-order : (edges : List (List ℕ)) (t : ℕ) → length (order_upto edges t) + length (left_after edges t) ≡ length edges
length-order edges zero = let e : length (left_after edges 0) ≡ length edges = ap length (left_after-zero edges) ∙ length-numbers 0 (length edges) in omega arith
length-order edges (suc t) = omega (arith, length-order edges t, length-left edges t, length-append (order_upto edges t) (removed_after edges t))

-- a test that a filter by its opposite leaves nothing of holds of all
passes_all : (p : ℕ → Bool) (xs : List ℕ) → filter (λ e. not (p e)) xs ≡ [] → list_all p xs ≡ true
passes_all p [] h = refl
passes_all p (x ∷ xs) h = go (p x) refl (passes_all p xs) where
  go : (b : Bool) → p x ≡ b → (filter (λ e. not (p e)) xs ≡ [] → list_all p xs ≡ true) → (p x && list_all p xs) ≡ true
  go true is ih = and_from _ _ is (ih (sym (ap (λ b. cond (not b) (x ∷ filter (λ e. not (p e)) xs) (filter (λ e. not (p e)) xs)) is) ∙ h))
  go false is ih =
      let e : x ∷ filter (λ e. not (p e)) xs ≡ [] = sym (ap (λ b. cond (not b) (x ∷ filter (λ e. not (p e)) xs) (filter (λ e. not (p e)) xs)) is) ∙ h in
      cc

-- a round that removes nothing is followed by none that does
pub stable_at : (edges : List (List ℕ)) (t : ℕ) → removed_after edges t ≡ [] → IsStable edges t
stable_at edges t none = passes_all (is_held edges (left_after edges t)) (left_after edges t) none

pub removed_same : (edges : List (List ℕ)) (t k : ℕ) → left_after edges k ≡ left_after edges t → removed_after edges k ≡ removed_after edges t
removed_same edges t k same = ap (λ (s : List ℕ). filter (λ e. not (is_held edges s e)) s) same

pub none_after : (edges : List (List ℕ)) (t : ℕ) → removed_after edges t ≡ [] → removed_after edges (suc t) ≡ []
none_after edges t none = removed_same edges t (suc t) (stable_stays edges t (stable_at edges t none)) ∙ none
