-- The places of a vertex, and what one half-edge more adds to them.
use Rattle.std.proofs.Common.{◌≡◌, ◌≢◌, ◌⊎◌, ◌+◌, ◌*◌, ◌/◌, ◌%◌, ◌<◌, ◌≤◌, ℕ, zero, suc, Bool, true, false, cond, eqb, not, List, [], ◌∷◌, length, get_or, Option, Some, None, sym, refl, ap, ◌∙◌, inl, inr, arith}
use Rattle.std.specs.List.{count_by, position_or_len}
use Rattle.std.proofs.lemmas.Bool.{cases_Bool, cases_eq, cases_lt, eq-eqb, eqb-true, ne_eqb, false≢true}
use Rattle.std.proofs.lemmas.List.{get_or_past}
use Rattle.std.proofs.lemmas.List.Sums.{sum_by-cons}
use Rattle.cm_graph_edges.specs.Graph.{lies_in}
use Rattle.cm_graph.specs.Next.{half_at, AreNext}
use Rattle.cm_graph.specs.Chained.{is_place}
use Rattle.cm_graph_edges.specs.declared.incidence.Half.{Half}
use Rattle.cm_graph.proofs.Positions.{lies_is, place_is, other_edges}

-- at one place there is one vertex
pub place_same_vertex : (slots : List (List (Option ℕ))) (u v q : ℕ) → is_place slots u q ≡ true → is_place slots v q ≡ true → u ≡ v
place_same_vertex slots u v q a b = go (half_at slots (q / 4) (q % 4)) a b where
  go : (x : Option ℕ) → lies_in u x ≡ true → lies_in v x ≡ true → u ≡ v
  go None x y = absurd (false≢true x)
  go (Some w) x y = sym (eqb-true w u x) ∙ eqb-true w v y

module _ {less more : List (List (Option ℕ))} {h : Half} (n : AreNext less more h) where
  -- the place itself
  pub place_free : (u : ℕ) → is_place less u h.place ≡ false
  place_free u = ap (lies_in u) n.none

  pub place_taken : (u : ℕ) → is_place more u h.place ≡ eqb h.vertex u
  place_taken u = ap (lies_in u) n.some

  -- each other place
  pub place_same : (u p : ℕ) → p ≢ h.place → is_place more u p ≡ is_place less u p
  place_same u p ne = go (cases_eq (p / 4) (h.place / 4)) where
    go : (p / 4 ≡ h.place / 4) ⊎ (p / 4 ≢ h.place / 4) → is_place more u p ≡ is_place less u p
    go (inr other) = ap (λ slot. lies_in u (get_or slot (p % 4) None)) (other_edges n (p / 4) other)
    go (inl same) =
        let beside : p % 4 ≢ h.place % 4 = (λ is. ne (omega (arith, same, is, place_is p, place_is h.place))) in
        ap (λ e. lies_in u (half_at more e (p % 4))) same ∙ (ap (lies_in u) (sym (n.others (p % 4) beside)) ∙ ap (λ e. lies_in u (half_at less e (p % 4))) (sym same))

  -- the vertex there has one place more, and another has the same
  pub place_here : (p : ℕ) → cond {A = ℕ} (is_place more h.vertex p) 1 0 ≡ cond (is_place less h.vertex p) 1 0 + cond (eqb h.place p) 1 0
  place_here p = go (cases_eq p h.place) where
    one : Bool → ℕ
    one b = cond b 1 0

    go : (p ≡ h.place) ⊎ (p ≢ h.place) → one (is_place more h.vertex p) ≡ one (is_place less h.vertex p) + one (eqb h.place p)
    go (inl is) =
        let taken : is_place more h.vertex p ≡ true = ap (is_place more h.vertex) is ∙ (place_taken h.vertex ∙ eq-eqb _ _ refl) in
        let free : is_place less h.vertex p ≡ false = ap (is_place less h.vertex) is ∙ place_free h.vertex in
        omega (arith, ap one taken, ap one free, ap one (eq-eqb _ _ (sym is)))
    go (inr other) = omega (arith, ap one (place_same h.vertex p other), ap one (ne_eqb _ _ (λ is. other (sym is))))

  pub place_other : (u p : ℕ) → u ≢ h.vertex → is_place more u p ≡ is_place less u p
  place_other u p ne = go (cases_eq p h.place) where
    go : (p ≡ h.place) ⊎ (p ≢ h.place) → is_place more u p ≡ is_place less u p
    go (inl is) =
        let taken : is_place more u p ≡ false = ap (is_place more u) is ∙ (place_taken u ∙ ne_eqb _ _ (λ e. ne (sym e))) in
        taken ∙ sym (ap (is_place less u) is ∙ place_free u)
    go (inr other) = place_same u p other

-- the half-edge at a place
pub place_half : (slots : List (List (Option ℕ))) (v p : ℕ) → is_place slots v p ≡ true → half_at slots (p / 4) (p % 4) ≡ Some v
place_half slots v p h = lies_is v _ h

-- a place lies among those of four for each slot
pub place_within : (p v : ℕ) (slots : List (List (Option ℕ))) → is_place slots v p ≡ true → (p / 4 < length slots) × (p < 4 * length slots)
place_within p v slots h = go (cases_lt (p / 4) (length slots)) where
  go : (p / 4 < length slots) ⊎ (length slots ≤ p / 4) → (p / 4 < length slots) × (p < 4 * length slots)
  go (inl within) = (within, omega (arith, within, place_is p))
  go (inr past) = absurd (false≢true (sym (ap (λ slot. lies_in v (get_or slot (p % 4) None)) (get_or_past slots (p / 4) [] past)) ∙ h))

-- if one element passes, it is the one found
pub count_at : {X : Type 0} (test : X → Bool) (xs : List X) (i : ℕ) (d : X) → i < length xs → test (get_or xs i d) ≡ true → 1 ≤ count_by test xs
count_at test [] i d h pass = absurd (omega arith)
count_at test (x ∷ xs) zero d h pass = omega (arith, sum_by-cons (λ y. cond (test y) 1 0) x xs, ap (λ (b : Bool). cond {A = ℕ} b 1 0) pass)
count_at test (x ∷ xs) (suc i) d h pass = omega (arith, sum_by-cons (λ y. cond (test y) 1 0) x xs, count_at test xs i d (omega arith) pass)

pub position_of_one : {X : Type 0} (test : X → Bool) (xs : List X) (i : ℕ) (d : X) → count_by test xs ≡ 1 → i < length xs → test (get_or xs i d) ≡ true → position_or_len test xs ≡ i
position_of_one test [] i d one h pass = absurd (omega arith)
position_of_one test (x ∷ xs) zero d one h pass = ap (λ (b : Bool). cond {A = ℕ} (not b) (1 + position_or_len test xs) 0) pass
position_of_one test (x ∷ xs) (suc i) d one h pass = go (cases_Bool (test x)) (position_of_one test xs i d) where
  c : cond (test x) 1 0 + count_by test xs ≡ 1
  c = sym (sum_by-cons (λ y. cond (test y) 1 0) x xs) ∙ one

  go : (test x ≡ true) ⊎ (test x ≡ false) → (count_by test xs ≡ 1 → i < length xs → test (get_or xs i d) ≡ true → position_or_len test xs ≡ i) → cond (not (test x)) (1 + position_or_len test xs) 0 ≡ suc i
  go (inl first) ih = absurd (omega (arith, c, ap (λ (b : Bool). cond {A = ℕ} b 1 0) first, count_at test xs i d (omega arith) pass))
  go (inr later) ih =
      let found : position_or_len test xs ≡ i = ih (omega (arith, c, ap (λ (b : Bool). cond {A = ℕ} b 1 0) later)) (omega arith) pass in
      ap (λ (b : Bool). cond {A = ℕ} (not b) (1 + position_or_len test xs) 0) later ∙ omega (arith, found)
