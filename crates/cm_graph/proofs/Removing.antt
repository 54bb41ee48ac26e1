-- Half-edges that are removed one after another, and what is listed of their vertices.
use Rattle.std.proofs.Common.{◌≡◌, ◌≢◌, ◌⊎◌, ◌+◌, ◌/◌, ◌%◌, ◌<◌, ◌≤◌, ℕ, suc, List, [], ◌∷◌, ◌++◌, length, get_or, set, take, Option, Some, None, sym, refl, ap, ◌∙◌, subst, inl, inr, arith, get_or-take, get_or-set_other, get_or-set_same, set-set}
use Rattle.std.specs.List.{All, slice_get}
use Rattle.std.proofs.lemmas.Bool.{cases_eq, cases_lt}
use Rattle.std.proofs.lemmas.List.{get_or_past, take_more, set-get_or}
use Rattle.std.proofs.lemmas.List.Elements.{All-from_get_or}
use Rattle.std.proofs.lemmas.Option.{none-some, slice_get-get_or, slice_get_within, get_or_from_slice_get}
use Rattle.std.proofs.Math.ListN.{length-set, length-take}
use Rattle.cm_graph_edges.specs.Graph.{Links, IsHalf, AreHalves, removed, removed_all, slot_of}
use Rattle.cm_graph.specs.Next.{halves_at, AreNext}
use Rattle.cm_graph_edges.specs.declared.incidence.Half.{Half}
use Rattle.cm_graph.proofs.Positions.{place_is}

-- a half-edge that is there, and its edge without it
module _ (slots : List (List (Option ℕ))) (e j v : ℕ) (there : slice_get (halves_at slots e) j ≡ Some (Some v)) where
  edge_within : e < length slots
  edge_within = go (cases_lt e (length slots)) where
    go : (e < length slots) ⊎ (length slots ≤ e) → e < length slots
    go (inl h) = h
    go (inr past) = absurd (none-some (Some v) (ap (λ (slot : List (Option ℕ)). slice_get slot j) (sym (get_or_past slots e [] past)) ∙ there))

  left_at : halves_at (set slots e (set (halves_at slots e) j None)) e ≡ set (halves_at slots e) j None
  left_at = get_or-set_same slots e (set (halves_at slots e) j None) [] edge_within

  still_within : e < length (set slots e (set (halves_at slots e) j None))
  still_within = subst (λ n. e < n) (sym (length-set slots e (set (halves_at slots e) j None))) edge_within

-- without one half-edge
pub removed_next : (l : Links) (h : Half) → IsHalf l h → AreNext (removed l h.place).slots l.slots h
removed_next l h there = record {
  within = still_within l.slots (h.place / 4) (h.place % 4) h.vertex there;
  is = sym (set-set l.slots (h.place / 4) (set (halves_at l.slots (h.place / 4)) (h.place % 4) None) (halves_at l.slots (h.place / 4)) ∙ set-get_or l.slots (h.place / 4) []);
  none = ap (λ slot. get_or slot (h.place % 4) None) (left_at l.slots (h.place / 4) (h.place % 4) h.vertex there) ∙ get_or-set_same (halves_at l.slots (h.place / 4)) (h.place % 4) None None (slice_get_within (halves_at l.slots (h.place / 4)) (h.place % 4) (Some h.vertex) there);
  some = get_or_from_slice_get (halves_at l.slots (h.place / 4)) (h.place % 4) (Some h.vertex) None there;
  others = λ i ne. ap (λ slot. get_or slot i None) (left_at l.slots (h.place / 4) (h.place % 4) h.vertex there) ∙ get_or-set_other (halves_at l.slots (h.place / 4)) (h.place % 4) i None None ne;
}

-- another half-edge stays
slice_get-set_other : {X : Type 0} (xs : List X) (i j : ℕ) (x y d : X) → j ≢ i → slice_get xs j ≡ Some y → slice_get (set xs i x) j ≡ Some y
slice_get-set_other xs i j x y d ne is =
    let within : j < length xs = slice_get_within xs j y is in
    slice_get-get_or (set xs i x) j d (omega (arith, within, length-set xs i x)) ∙ ap Some (get_or-set_other xs i j x d ne ∙ get_or_from_slice_get xs j y d is)

half_stays : (l : Links) (g : Half) (q : ℕ) → g.place ≢ q → IsHalf l g → IsHalf (removed l q) g
half_stays l g q ne there = go (cases_eq (g.place / 4) (q / 4)) where
  slot : List (Option ℕ)
  slot = set (slot_of l (q / 4)) (q % 4) None

  go : (g.place / 4 ≡ q / 4) ⊎ (g.place / 4 ≢ q / 4) → IsHalf (removed l q) g
  go (inr other) = ap (λ xs. slice_get xs (g.place % 4)) (get_or-set_other l.slots (q / 4) (g.place / 4) slot [] other) ∙ there
  go (inl same) =
      let beside : g.place % 4 ≢ q % 4 = (λ is. ne (omega (arith, same, is, place_is g.place, place_is q))) in
      let there' : slice_get (slot_of l (q / 4)) (g.place % 4) ≡ Some (Some g.vertex) = ap (λ e. slice_get (slot_of l e) (g.place % 4)) (sym same) ∙ there in
      ap (λ e. slice_get (slot_of (removed l q) e) (g.place % 4)) same ∙ (ap (λ xs. slice_get xs (g.place % 4)) (get_or-set_same l.slots (q / 4) slot [] (edge_within l.slots (q / 4) (g.place % 4) g.vertex there'))
      ∙ slice_get-set_other (slot_of l (q / 4)) (q % 4) (g.place % 4) None (Some g.vertex) None beside there')

pub half_left : (l : Links) (halves : List Half) (g : Half) → All (λ h. h.place ≢ g.place) halves → IsHalf l g → IsHalf (removed_all l halves) g
half_left l [] g apart there = there
half_left l (h ∷ halves) g apart there = half_left (removed l h.place) halves g (λ k d below. apart (suc k) d (omega (arith, below))) (half_stays l g h.place (λ is. apart 0 h (omega arith) (sym is)) there)

pub removed_all-vertices : (l : Links) (halves : List Half) → (removed_all l halves).vertices ≡ l.vertices
removed_all-vertices l [] = refl
removed_all-vertices l (h ∷ halves) = removed_all-vertices (removed l h.place) halves

removed_all-push : (l : Links) (halves : List Half) (h : Half) → removed_all l (halves ++ h ∷ []) ≡ removed (removed_all l halves) h.place
removed_all-push l [] h = refl
removed_all-push l (g ∷ halves) h = removed_all-push (removed l g.place) halves h

pub removed_more : (l : Links) (halves : List Half) (i : ℕ) (d : Half) → i < length halves → removed_all l (take (i + 1) halves) ≡ removed (removed_all l (take i halves)) (get_or halves i d).place
removed_more l halves i d within = ap (removed_all l) (take_more halves i d within) ∙ removed_all-push l (take i halves) (get_or halves i d)

-- the next half-edge is there still
pub next_there : (l : Links) (halves : List Half) (i : ℕ) (d : Half) → AreHalves l halves → i < length halves → IsHalf (removed_all l (take i halves)) (get_or halves i d)
next_there l halves i d are within = half_left l (take i halves) (get_or halves i d) before (are.0 i d within) where
  before : All (λ h. h.place ≢ (get_or halves i d).place) (take i halves)
  before = All-from_get_or (λ h. h.place ≢ (get_or halves i d).place) (take i halves) d (λ k below.
      let at : k < i = omega (arith, below, length-take i halves) in
      subst (λ (h : Half). h.place ≢ (get_or halves i d).place) (sym (get_or-take i halves k d at)) (are.1 k i d at within))

pub all_within : (l m : Links) (halves : List Half) → m ≡ removed_all l halves → All (λ h. h.vertex < l.vertices) halves → All (λ h. h.vertex < m.vertices) halves
all_within l m halves is h k d below = subst (λ n. (get_or halves k d).vertex < n) (sym (ap (λ (x : Links). x.vertices) is ∙ removed_all-vertices l halves)) (h k d below)
