-- What a round does, by the definitions.
use Rattle.std.proofs.Common.{◌≡◌, ◌⊎◌, ℕ, ◌+◌, ◌<◌, ◌≤◌, Bool, true, false, cond, not, eqb, leb, ◌&&◌, ◌||◌, List, [], ◌∷◌, length, map, sym, refl, ap, ◌∙◌, inl, inr, arith}
use Rattle.std.specs.List.{count_by, filter, list_any, list_all}
use Rattle.std.proofs.lemmas.Bool.{cases_Bool, cases_lt, eqb-true, eq-eqb, ne_eqb, and_left, or_cases, or_left, or_right, le-leb, lt-leb, false≢true, not_from_false}
use Rattle.cm_spec.specs.Lists.{has}
use Rattle.cm_spec.specs.Graph.{touches, places, ends_at, degree_in}
use Rattle.cm_spec.specs.Rounds.{is_left, is_held, left_after, removed_after}
use Rattle.cm_graph_edges.specs.Graph.{Graph, Links, degree_of}
use Rattle.cm_peel.specs.Incident.{AreLinked, is_half_left, is_picked}
use Rattle.cm_peel.proofs.Incident.{IsLive, lies, degree_is, lies_left, live}
use Rattle.cm_peel.specs.SetLaws.{count_by-cons, count_by-filter, Rises, filter_agree_on, rising_is_filter}
use Rattle.cm_peel.specs.CoreLaws.{left_after-zero, left_after_is}
use Rattle.cm_peel.specs.RoundLaws.{degree_some, is_left_from, place_below}

-- how many pass a test that agrees with another one
pub count_by_agree : (p q : ℕ → Bool) (xs : List ℕ) → ((e : ℕ) → has xs e ≡ true → p e ≡ q e) → count_by p xs ≡ count_by q xs
count_by_agree p q [] same = refl
count_by_agree p q (x ∷ xs) same =
    count_by-cons p x xs ∙ (ap (λ b. cond b 1 0 + count_by p xs) (same x (or_left _ _ (eq-eqb x x refl)))
    ∙ (ap (λ n. cond (q x) 1 0 + n) (count_by_agree p q xs (λ e m. same e (or_right (eqb x e) _ m))) ∙ sym (count_by-cons q x xs)))

-- degrees in the incidence
pub degree_left : (graph : Graph) (t : ℕ) (l : Links) (v : ℕ) → AreLinked graph (is_half_left graph.edges t) l → IsLive graph.edges t v → degree_of l v ≡ degree_in graph.edges (left_after graph.edges t) v
degree_left graph t l v a alone =
    let edges : List (List ℕ) = graph.edges in
    degree_is graph (is_half_left edges t) l v a
    ∙ (count_by_agree (lies edges (is_half_left edges t) v) (λ e. is_left edges t e && touches v (ends_at edges e)) (places edges) (λ e m. lies_left edges t v e (alone e (place_below edges e m)))
    ∙ (sym (count_by-filter (is_left edges t) (λ e. touches v (ends_at edges e)) (places edges)) ∙ ap (λ s. degree_in edges s v) (sym (left_after_is edges t))))

pub any_not_all : (d e : ℕ → ℕ) (ends : List ℕ) → ((v : ℕ) → has ends v ≡ true → d v ≡ e v) → ((v : ℕ) → has ends v ≡ true → 1 ≤ d v) → list_any (λ v. eqb (d v) 1) ends ≡ not (list_all (λ v. leb 2 (e v)) ends)
any_not_all d e [] same some = refl
any_not_all d e (x ∷ xs) same some = go (cases_lt (d x) 2) (same x (or_left _ _ (eq-eqb x x refl))) (any_not_all d e xs (λ v m. same v (or_right (eqb x v) (has xs v) m)) (λ v m. some v (or_right (eqb x v) (has xs v) m))) where
  go : (d x < 2) ⊎ (2 ≤ d x) → d x ≡ e x → list_any (λ v. eqb (d v) 1) xs ≡ not (list_all (λ v. leb 2 (e v)) xs) → (eqb (d x) 1 || list_any (λ v. eqb (d v) 1) xs) ≡ not (leb 2 (e x) && list_all (λ v. leb 2 (e v)) xs)
  go (inl few) at ih =
      let least : 1 ≤ d x = some x (or_left _ _ (eq-eqb x x refl)) in
      or_left _ _ (eq-eqb (d x) 1 (omega arith)) ∙ sym (not_from_false _ (and_left _ _ (lt-leb 2 (e x) (omega (arith, at)))))
  go (inr many) at ih =
      let f : eqb (d x) 1 ≡ false = ne_eqb (d x) 1 (λ s. absurd (omega arith)) in
      let g : leb 2 (e x) ≡ true = le-leb 2 (e x) (omega (arith, at)) in
      ap (λ b. b || list_any (λ v. eqb (d v) 1) xs) f ∙ (ih ∙ sym (ap (λ b. not (b && list_all (λ v. leb 2 (e v)) xs)) g))

-- an edge that is left is picked exactly if the next round removes it
pub picked_is : (graph : Graph) (t : ℕ) (l : Links) (e : ℕ) → AreLinked graph (is_half_left graph.edges t) l → has (left_after graph.edges t) e ≡ true → is_picked l graph.edges e ≡ not (is_held graph.edges (left_after graph.edges t) e)
picked_is graph t l e a m =
    let here = is_left_from graph.edges t e m in
    let same : (v : ℕ) → has (ends_at graph.edges e) v ≡ true → degree_of l v ≡ degree_in graph.edges (left_after graph.edges t) v = λ v h. degree_left graph t l v a (live graph.edges t e v here.0 here.1 h) in
    any_not_all (degree_of l) (degree_in graph.edges (left_after graph.edges t)) (ends_at graph.edges e) same (λ v h. omega (arith, degree_some graph.edges t e v m h, same v h))

pub picked_within : (graph : Graph) (t : ℕ) (l : Links) (xs : List ℕ) → AreLinked graph (is_half_left graph.edges t) l → ((e : ℕ) → has xs e ≡ true → has (left_after graph.edges t) e ≡ true) → filter (is_picked l graph.edges) xs ≡ filter (λ e. not (is_held graph.edges (left_after graph.edges t) e)) xs
picked_within graph t l xs a inside = filter_agree_on (is_picked l graph.edges) (λ e. not (is_held graph.edges (left_after graph.edges t) e)) xs (λ e m. picked_is graph t l e a (inside e m))

pub picked_first : (graph : Graph) (l : Links) → AreLinked graph (is_half_left graph.edges 0) l → filter (is_picked l graph.edges) (places graph.edges) ≡ removed_after graph.edges 0
picked_first graph l a =
    ap (filter (is_picked l graph.edges)) (sym (left_after-zero graph.edges)) ∙ picked_within graph 0 l (left_after graph.edges 0) a (λ e m. m)

-- members of a list that is made by a function
pub has_map : (f : ℕ → ℕ) (xs : List ℕ) (e : ℕ) → has (map f xs) e ≡ true → (x : ℕ) × (has xs x ≡ true) × (f x ≡ e)
has_map f [] e h = absurd (false≢true h)
has_map f (x ∷ xs) e h = go (or_cases (eqb (f x) e) (has (map f xs) e) h) (has_map f xs e) where
  go : (eqb (f x) e ≡ true) ⊎ (has (map f xs) e ≡ true) → (has (map f xs) e ≡ true → (y : ℕ) × (has xs y ≡ true) × (f y ≡ e)) → (y : ℕ) × (has (x ∷ xs) y ≡ true) × (f y ≡ e)
  go (inl same) ih = (x, or_left (eqb x x) (has xs x) (eq-eqb x x refl), eqb-true (f x) e same)
  go (inr more) ih = let r = ih more in (r.0, or_right (eqb x r.0) (has xs r.0) r.1, r.2)

pub has_map_from : (f : ℕ → ℕ) (xs : List ℕ) (x : ℕ) → has xs x ≡ true → has (map f xs) (f x) ≡ true
has_map_from f [] x h = absurd (false≢true h)
has_map_from f (y ∷ ys) x h = go (or_cases (eqb y x) (has ys x) h) (has_map_from f ys x) where
  go : (eqb y x ≡ true) ⊎ (has ys x ≡ true) → (has ys x ≡ true → has (map f ys) (f x) ≡ true) → (eqb (f y) (f x) || has (map f ys) (f x)) ≡ true
  go (inl same) ih = or_left _ _ (eq-eqb (f y) (f x) (ap f (eqb-true y x same)))
  go (inr more) ih = or_right _ _ (ih more)

-- two rising lists of places that have the same
pub rising_same : (edges : List (List ℕ)) (xs ys : List ℕ) → Rises 0 xs → Rises 0 ys → ((e : ℕ) → has ys e ≡ true → e < length edges) → ((e : ℕ) → has xs e ≡ true → has ys e ≡ true) → ((e : ℕ) → has ys e ≡ true → has xs e ≡ true) → xs ≡ ys
rising_same edges xs ys r s inside to from =
    let n : ℕ = length edges in
    let a : xs ≡ filter (has xs) (places edges) = rising_is_filter 0 n xs r (λ e m. omega (arith, inside e (to e m))) in
    let b : ys ≡ filter (has ys) (places edges) = rising_is_filter 0 n ys s (λ e m. omega (arith, inside e m)) in
    a ∙ (filter_agree_on (has xs) (has ys) (places edges) (λ e m. go (cases_Bool (has xs e)) (cases_Bool (has ys e)) (to e) (from e)) ∙ sym b) where
      go : {a b : Bool} → (a ≡ true) ⊎ (a ≡ false) → (b ≡ true) ⊎ (b ≡ false) → (a ≡ true → b ≡ true) → (b ≡ true → a ≡ true) → a ≡ b
      go (inl p) (inl q) t f = p ∙ sym q
      go (inl p) (inr q) t f = p ∙ sym (t p)
      go (inr p) (inl q) t f = f q ∙ sym q
      go (inr p) (inr q) t f = p ∙ sym q
