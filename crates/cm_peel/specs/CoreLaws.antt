-- Lemmas about the residual graph: it is the greatest closed set. No contract needs them.
use Rattle.std.proofs.Common.{◌≡◌, ◌⊎◌, ℕ, zero, suc, ◌+◌, ◌<◌, ◌≤◌, Bool, true, false, cond, ◌&&◌, List, [], ◌∷◌, length, get_or, sym, refl, ap, ◌∙◌, subst, inl, inr, arith, leb}
use Rattle.std.specs.List.{Contains, filter, All, list_all}
use Rattle.std.proofs.lemmas.Bool.{cases_Bool, false≢true, and_parts, and_from, leb-true, le-leb}
use Rattle.std.proofs.lemmas.List.Sums.{AllPass-from_list_all, list_all-from_AllPass}
use Rattle.std.proofs.lemmas.List.Elements.{All-from_get_or, All-contains, Contains-get_or}
use Rattle.cm_spec.specs.Lists.{has}
use Rattle.cm_spec.specs.Graph.{touches, places, ends_at, degree_in, ArePlaces}
use Rattle.cm_spec.specs.Rounds.{is_left, is_held, left_after, rest_of}
use Rattle.cm_spec.specs.Core.{IsClosed, IsCore, HasEmptyCore}
use Rattle.cm_peel.specs.SetLaws.{filter-filter, count_by-filter, count_by-le, has-filter, Rises, Rises-filter, Rises-numbers, has-numbers, has-numbers_high, rising_is_filter, Rises-from_increasing, increasing_from_Rises, has-from_Contains, Contains-from_has, length-numbers}

pub left_after-zero : (edges : List (List ℕ)) → left_after edges 0 ≡ places edges
unfolding left_after
left_after-zero edges = refl

pub left_after-suc : (edges : List (List ℕ)) (t : ℕ) → left_after edges (suc t) ≡ filter (is_held edges (left_after edges t)) (left_after edges t)
unfolding left_after
left_after-suc edges t = refl

pub filter_all : (xs : List ℕ) → filter (λ _. true) xs ≡ xs
filter_all [] = refl
filter_all (x ∷ xs) = ap (λ ys. x ∷ ys) (filter_all xs)

pub left_after_is : (edges : List (List ℕ)) (t : ℕ) → left_after edges t ≡ filter (is_left edges t) (places edges)
left_after_is edges zero = left_after-zero edges ∙ sym (filter_all (places edges))
left_after_is edges (suc t) =
    left_after-suc edges t
    ∙ (ap (filter (is_held edges (left_after edges t))) (left_after_is edges t)
    ∙ filter-filter (is_left edges t) (is_held edges (left_after edges t)) (places edges))

pub left_after_rises : (edges : List (List ℕ)) (t : ℕ) → Rises 0 (left_after edges t)
left_after_rises edges t = rw left_after_is (Rises-filter (is_left edges t) 0 (places edges) (Rises-numbers 0 (length edges)))

-- more places have no less degree
pub degree_in-le : (edges : List (List ℕ)) (p q : ℕ → Bool) (v : ℕ) → ((e : ℕ) → p e ≡ true → q e ≡ true) → degree_in edges (filter p (places edges)) v ≤ degree_in edges (filter q (places edges)) v
degree_in-le edges p q v h =
    let t : ℕ → Bool = λ e. touches v (ends_at edges e) in
    rw (count_by-filter p t (places edges), count_by-filter q t (places edges))
    (count_by-le (λ e. p e && t e) (λ e. q e && t e) (places edges) (λ e m. and_from _ _ (h e (and_parts _ _ m).0) (and_parts _ _ m).1))

-- a set of places is what its test keeps
pub places_by_test : (edges : List (List ℕ)) (these : List ℕ) → ArePlaces edges these → these ≡ filter (has these) (places edges)
places_by_test edges these ok =
    rising_is_filter 0 (length edges) these (Rises-from_increasing 0 these ok.0 (λ _. omega arith))
    (λ e m. omega (arith, All-contains (λ e. e < length edges) these e ok.1 (Contains-from_has these e m)))

-- a closed set is left after any number of rounds
pub closed_is_left : (edges : List (List ℕ)) (these : List ℕ) → ArePlaces edges these → IsClosed edges these → (t e : ℕ) → has these e ≡ true → is_left edges t e ≡ true
closed_is_left edges these ok closed zero e m = refl
closed_is_left edges these ok closed (suc t) e m =
    let ih = closed_is_left edges these ok closed t in
    let ends : List ℕ = ends_at edges e in
    let held : All (λ v. 2 ≤ degree_in edges these v) ends = All-contains (λ e. All (λ v. 2 ≤ degree_in edges these v) (ends_at edges e)) these e closed (Contains-from_has these e m) in
    and_from _ _ (ih e m)
    (list_all-from_AllPass (λ v. leb 2 (degree_in edges (left_after edges t) v)) ends (λ k d h.
    let v : ℕ = get_or ends k d in
    let more : degree_in edges (filter (has these) (places edges)) v ≤ degree_in edges (filter (is_left edges t) (places edges)) v = degree_in-le edges (has these) (is_left edges t) v ih in
    let here : degree_in edges these v ≡ degree_in edges (filter (has these) (places edges)) v = ap (λ s. degree_in edges s v) (places_by_test edges these ok) in
    let there : degree_in edges (left_after edges t) v ≡ degree_in edges (filter (is_left edges t) (places edges)) v = ap (λ s. degree_in edges s v) (left_after_is edges t) in
    let two : 2 ≤ degree_in edges these v = held k d h in
    le-leb 2 _ (omega arith)))

-- no round removes more
abbrev pub IsStable : List (List ℕ) → ℕ → Type 0
IsStable edges t = list_all (is_held edges (left_after edges t)) (left_after edges t) ≡ true

pub filter_passes_all : (p : ℕ → Bool) (xs : List ℕ) → list_all p xs ≡ true → filter p xs ≡ xs
filter_passes_all p [] h = refl
filter_passes_all p (x ∷ xs) h =
    let both = and_parts (p x) (list_all p xs) h in
    ap (λ b. cond b (x ∷ filter p xs) (filter p xs)) both.0 ∙ ap (λ ys. x ∷ ys) (filter_passes_all p xs both.1)

pub filter_no_longer : (p : ℕ → Bool) (xs : List ℕ) → length (filter p xs) ≤ length xs
filter_no_longer p [] = omega arith
filter_no_longer p (x ∷ xs) = go (p x) (filter_no_longer p xs) where
  go : (b : Bool) → length (filter p xs) ≤ length xs → length (cond b (x ∷ filter p xs) (filter p xs)) ≤ suc (length xs)
  go true h = omega arith
  go false h = omega arith

pub filter_shrinks : (p : ℕ → Bool) (xs : List ℕ) → list_all p xs ≡ false → length (filter p xs) < length xs
filter_shrinks p [] h = absurd (false≢true (sym h))
filter_shrinks p (x ∷ xs) h = go (p x) refl (filter_shrinks p xs) where
  go : (b : Bool) → p x ≡ b → (list_all p xs ≡ false → length (filter p xs) < length xs) → length (cond (p x) (x ∷ filter p xs) (filter p xs)) < suc (length xs)
  go true is ih =
      let h' : list_all p xs ≡ false = sym (ap (λ b. b && list_all p xs) is) ∙ h in
      rw is (omega (arith, ih h'))
  go false is ih = rw is (omega (arith, filter_no_longer p xs))

pub stable_stays : (edges : List (List ℕ)) (t : ℕ) → IsStable edges t → left_after edges (suc t) ≡ left_after edges t
stable_stays edges t s = left_after-suc edges t ∙ filter_passes_all (is_held edges (left_after edges t)) (left_after edges t) s

pub stable_next : (edges : List (List ℕ)) (t : ℕ) → IsStable edges t → IsStable edges (suc t)
stable_next edges t s = rw (stable_stays edges t s) s

pub progress : (edges : List (List ℕ)) (t : ℕ) → IsStable edges t ⊎ (length (left_after edges t) + t ≤ length edges)
progress edges zero = inr (let e : length (left_after edges 0) ≡ length edges = ap length (left_after-zero edges) ∙ length-numbers 0 (length edges) in omega arith)
progress edges (suc t) = elim (progress edges t) [
  | inl s ↦ inl (stable_next edges t s)
  | inr few ↦ elim (cases_Bool (list_all (is_held edges (left_after edges t)) (left_after edges t))) [
    | inl s ↦ inl (stable_next edges t s)
    | inr fails ↦ inr (
        let less : length (filter (is_held edges (left_after edges t)) (left_after edges t)) < length (left_after edges t) = filter_shrinks _ _ fails in
        let same : length (left_after edges (suc t)) ≡ length (filter (is_held edges (left_after edges t)) (left_after edges t)) = ap length (left_after-suc edges t) in
        omega arith)
  ]
]

pub no_length : (xs : List ℕ) → length xs ≡ 0 → xs ≡ []
no_length [] e = refl
no_length (x ∷ xs) e = absurd (omega arith)

pub rest_is_stable : (edges : List (List ℕ)) → IsStable edges (length edges)
rest_is_stable edges = elim (progress edges (length edges)) [
  | inl s ↦ s
  | inr few ↦ let e : left_after edges (length edges) ≡ [] = no_length _ (omega arith) in rw e refl
]

pub rest_are_places : (edges : List (List ℕ)) → ArePlaces edges (rest_of edges)
rest_are_places edges = (
  increasing_from_Rises 0 (rest_of edges) (left_after_rises edges (length edges)),
  All-from_get_or (λ e. e < length edges) (rest_of edges) 0 (λ k h.
      let e : ℕ = get_or (rest_of edges) k 0 in
      let m : has (rest_of edges) e ≡ true = has-from_Contains (rest_of edges) e (Contains-get_or (rest_of edges) k 0 h) in
      let n : has (filter (is_left edges (length edges)) (places edges)) e ≡ true = ap (λ s. has s e) (sym (left_after_is edges (length edges))) ∙ m in
      let p : has (places edges) e ≡ true = (and_parts _ _ (sym (has-filter (is_left edges (length edges)) (places edges) e) ∙ n)).0 in
      omega (arith, has-numbers_high 0 (length edges) e p)),
)

pub rest_is_closed : (edges : List (List ℕ)) → IsClosed edges (rest_of edges)
rest_is_closed edges k d h j c l =
    let rest : List ℕ = rest_of edges in
    let held : is_held edges rest (get_or rest k d) ≡ true = AllPass-from_list_all (is_held edges rest) rest (rest_is_stable edges) k d h in
    leb-true 2 _ (AllPass-from_list_all (λ v. leb 2 (degree_in edges rest v)) (ends_at edges (get_or rest k d)) held j c l)

-- the residual graph is the core
pub rest_is_core : (edges : List (List ℕ)) → IsCore edges (rest_of edges)
rest_is_core edges = record {
  rising = (rest_are_places edges).0;
  from = λ e m. (rest_of edges, rest_are_places edges, rest_is_closed edges, m);
  to = λ e these ok closed m.
      let n : ℕ = length edges in
      let left : is_left edges n e ≡ true = closed_is_left edges these ok closed n e (has-from_Contains these e m) in
      let place : has (places edges) e ≡ true = has-numbers 0 n e (omega arith) (omega (arith, All-contains (λ e. e < n) these e ok.1 m)) in
      let kept : has (filter (is_left edges n) (places edges)) e ≡ true = has-filter (is_left edges n) (places edges) e ∙ and_from _ _ place left in
      Contains-from_has (rest_of edges) e (ap (λ s. has s e) (left_after_is edges n) ∙ kept);
}

-- the residual graph is empty exactly if the core is
pub empty_core : (edges : List (List ℕ)) → rest_of edges ≡ [] → HasEmptyCore edges
empty_core edges none = subst (IsCore edges) none (rest_is_core edges)

pub empty_rest : (edges : List (List ℕ)) → HasEmptyCore edges → rest_of edges ≡ []
empty_rest edges empty = go (rest_of edges) (rest_is_core edges) where
  go : (rest : List ℕ) → IsCore edges rest → rest ≡ []
  go [] core = refl
  go (e ∷ es) core =
      let here : Contains (e ∷ es) e = Contains-get_or (e ∷ es) 0 0 (omega arith) in
      let some = core.from e here in
      absurd (omega (arith, (empty.to e some.0 some.1 some.2 some.3).1))
