-- The slots of an edge whose half-edges are linked one after another.
use Rattle.std.proofs.Common.{◌≡◌, ◌≢◌, ◌⊎◌, ◌+◌, ◌-◌, ◌/◌, ◌%◌, ◌<◌, ◌≤◌, ℕ, suc, false, eqb, ◌||◌, List, [], ◌∷◌, ◌++◌, length, get_or, set, take, map, replicate, Option, Some, None, sym, refl, ap, ◌∙◌, subst, inl, inr, arith, get_or-take, get_or-set_same, set-set, append_assoc}
use Rattle.std.specs.List.{AllPairs}
use Rattle.std.proofs.lemmas.Bool.{cases_lt, ne_eqb}
use Rattle.std.proofs.lemmas.List.{take_all, get_or_past, get_or-map, length-map, take_more, map-append, set-get_or}
use Rattle.std.proofs.lemmas.List.Elements.{All-from_get_or}
use Rattle.std.proofs.lemmas.List.Folds.{list_any_none}
use Rattle.std.proofs.lemmas.Option.{get_or_from_slice_get}
use Rattle.std.proofs.Math.ListN.{length-set, length-take}
use Rattle.std.proofs.Math.Seq.{set-append_seam}
use Rattle.cm_spec.specs.Graph.{touches}
use Rattle.cm_graph_edges.specs.Graph.{Links, IsFree, IsLinked, linked, halves_of, slot_touches}
use Rattle.cm_graph.specs.Next.{halves_at, half_at, AreNext}
use Rattle.cm_graph_edges.specs.declared.incidence.Half.{Half}
use Rattle.cm_spec.specs.declared.limits.TheConstants.{MAX_EDGES}

pub links_eq : (a b : ℕ) (s t : List (List (Option ℕ))) → a ≡ b → s ≡ t → ◌≡◌ {A = Links} (record { vertices = a; slots = s }) (record { vertices = b; slots = t })
links_eq a b s t p q = λ i. record { vertices = p i; slots = q i }

-- an edge whose slot is written again
pub relinked : (l : Links) (e : ℕ) (a b : List ℕ) → linked (linked l e a) e b ≡ linked l e b
relinked l e a b = links_eq _ _ _ _ refl (set-set l.slots e (halves_of a) (halves_of b))

-- an edge that isn't linked has no half-edge
pub linked_bare : (l : Links) (e : ℕ) → IsFree l e → l ≡ linked l e []
linked_bare l e free = sym (links_eq _ _ _ _ refl (ap (set l.slots e) (sym (get_or_from_slice_get l.slots e [] [] free)) ∙ set-get_or l.slots e []))

-- an edge that is linked has its ends
pub linked_whole : (l : Links) (e n : ℕ) (ends : List ℕ) → IsLinked l e ends → length ends ≤ n → l ≡ linked l e (take n ends)
linked_whole l e n ends there short = sym (links_eq _ _ _ _ refl (ap (λ xs. set l.slots e (halves_of xs)) (take_all n ends short) ∙ (ap (set l.slots e) (sym (get_or_from_slice_get l.slots e (halves_of ends) [] there)) ∙ set-get_or l.slots e [])))

-- the ends as half-edges
touches_halves : (v : ℕ) (ends : List ℕ) → slot_touches v (halves_of ends) ≡ touches v ends
touches_halves v [] = refl
touches_halves v (u ∷ ends) = ap (λ b. eqb u v || b) (touches_halves v ends)

half_before : (ends : List ℕ) (n i : ℕ) → i < n → i < length ends → get_or (halves_of (take n ends)) i None ≡ Some (get_or ends i 0)
half_before ends n i h within = get_or-map Some (take n ends) i 0 None (omega (arith, h, within, length-take n ends)) ∙ ap Some (get_or-take n ends i 0 h)

half_past : (ends : List ℕ) (n i : ℕ) → n ≤ i → get_or (halves_of (take n ends)) i None ≡ None
half_past ends n i h = get_or_past (halves_of (take n ends)) i None (omega (arith, h, length-take n ends, length-map (take n ends) Some))

half_outside : (ends : List ℕ) (n i : ℕ) → length ends ≤ i → get_or (halves_of (take n ends)) i None ≡ None
half_outside ends n i h = get_or_past (halves_of (take n ends)) i None (omega (arith, h, length-take n ends, length-map (take n ends) Some))

half_same : (ends : List ℕ) (j i : ℕ) → i ≢ j → get_or (halves_of (take j ends)) i None ≡ get_or (halves_of (take (j + 1) ends)) i None
half_same ends j i ne = go (cases_lt i j) (cases_lt i (length ends)) where
  go : (i < j) ⊎ (j ≤ i) → (i < length ends) ⊎ (length ends ≤ i) → get_or (halves_of (take j ends)) i None ≡ get_or (halves_of (take (j + 1) ends)) i None
  go (inl before) (inl within) = half_before ends j i before within ∙ sym (half_before ends (j + 1) i (omega (arith, before)) within)
  go p (inr outside) = half_outside ends j i outside ∙ sym (half_outside ends (j + 1) i outside)
  go (inr after) p = half_past ends j i after ∙ sym (half_past ends (j + 1) i (omega (arith, after, ne)))

-- one half-edge more
pub linked_next : (l : Links) (e j : ℕ) (ends : List ℕ) (h : Half) → e < length l.slots → j < length ends → h.place / 4 ≡ e → h.place % 4 ≡ j → h.vertex ≡ get_or ends j 0
    → AreNext (linked l e (take j ends)).slots (set (linked l e (take j ends)).slots e (halves_of (take (j + 1) ends))) h
linked_next l e j ends h within position edge at vertex = record {
  within = subst (λ i. i < length less) (sym edge) within';
  is = ap (λ slot. set less e slot) (sym here) ∙ ap (λ i. set less i (halves_at more i)) (sym edge);
  none = ap (λ i. half_at less i (h.place % 4)) edge ∙ (ap (half_at less e) at ∙ (ap (λ slot. get_or slot j None) bare ∙ half_past ends j j (omega arith)));
  some = ap (λ i. half_at more i (h.place % 4)) edge ∙ (ap (half_at more e) at ∙ (ap (λ slot. get_or slot j None) here ∙ (half_before ends (j + 1) j (omega arith) position ∙ ap Some (sym vertex))));
  others = λ i ne. ap (λ k. half_at less k i) edge ∙ (ap (λ slot. get_or slot i None) bare ∙ (half_same ends j i (λ is. ne (is ∙ sym at)) ∙ (ap (λ slot. get_or slot i None) (sym here) ∙ ap (λ k. half_at more k i) (sym edge))));
} where
  less : List (List (Option ℕ))
  less = (linked l e (take j ends)).slots

  more : List (List (Option ℕ))
  more = set less e (halves_of (take (j + 1) ends))

  within' : e < length less
  within' = subst (λ n. e < n) (sym (length-set l.slots e (halves_of (take j ends)))) within

  here : halves_at more e ≡ halves_of (take (j + 1) ends)
  here = get_or-set_same less e (halves_of (take (j + 1) ends)) [] within'

  bare : halves_at less e ≡ halves_of (take j ends)
  bare = get_or-set_same l.slots e (halves_of (take j ends)) [] within

-- an end is none of the ends before it
touches_before : (ends : List ℕ) (i : ℕ) → AllPairs (λ u v. u ≢ v) ends → i < length ends → touches (get_or ends i 0) (take i ends) ≡ false
touches_before ends i apart h =
    list_any_none (λ u. eqb u (get_or ends i 0)) (take i ends) (All-from_get_or (λ u. eqb u (get_or ends i 0) ≡ false) (take i ends) 0 (λ k below.
    let at : k < i = omega (arith, length-take i ends) in
    let fact : eqb (get_or ends k 0) (get_or ends i 0) ≡ false = ne_eqb _ _ (apart k i 0 at h) in
    rw get_or-take fact))

pub linked_apart : (l : Links) (e j q : ℕ) (ends : List ℕ) → e < length l.slots → AllPairs (λ u v. u ≢ v) ends → j < length ends → q / 4 ≡ e → slot_touches (get_or ends j 0) (halves_at (linked l e (take j ends)).slots (q / 4)) ≡ false
linked_apart l e j q ends within apart position edge =
    ap (λ i. slot_touches (get_or ends j 0) (halves_at (linked l e (take j ends)).slots i)) edge ∙ (ap (slot_touches (get_or ends j 0)) (get_or-set_same l.slots e (halves_of (take j ends)) [] within) ∙ (touches_halves (get_or ends j 0) (take j ends) ∙ touches_before ends j apart position))

-- the number of an edge is in range
pub few_edges : (l now : Links) (e : ℕ) (ends : List ℕ) (slots : List (List (Option ℕ))) → e < length l.slots → now ≡ linked l e ends → slots ≡ now.slots → length slots ≤ MAX_EDGES → e < MAX_EDGES
few_edges l now e ends slots within is same most = omega (arith, within, ap length same, ap (λ (x : Links). length x.slots) is, length-set l.slots e (halves_of ends), most)

-- the first e edges linked, of all
abbrev pub linked_first : ℕ → List (List ℕ) → ℕ → Links
linked_first n edges e = record { vertices = n; slots = map halves_of (take e edges) ++ replicate (length edges - e) [] }

pub linked_more : (n : ℕ) (edges : List (List ℕ)) (e : ℕ) (ends : List ℕ) → e < length edges → ends ≡ get_or edges e [] → linked (linked_first n edges e) e ends ≡ linked_first n edges (e + 1)
linked_more n edges e ends h is = links_eq _ _ _ _ refl (
    ap (λ k. set (first ++ replicate k []) e (halves_of ends)) (let s : length edges - e ≡ suc (length edges - (e + 1)) = omega (arith, h) in s) ∙ (
    ap (λ k. set (first ++ [] ∷ rest) k (halves_of ends)) (sym many) ∙ (
    set-append_seam first [] rest (halves_of ends) ∙ (
    sym (append_assoc first (halves_of ends ∷ []) rest) ∙
    ap (λ xs. xs ++ rest) (ap (λ (x : List ℕ). first ++ halves_of x ∷ []) is ∙ (sym (map-append halves_of (take e edges) (get_or edges e [] ∷ [])) ∙ ap (map halves_of) (sym (take_more edges e [] h)))))))) where
      first : List (List (Option ℕ))
      first = map halves_of (take e edges)

      rest : List (List (Option ℕ))
      rest = replicate (length edges - (e + 1)) []

      many : length first ≡ e
      many = omega (arith, h, length-map (take e edges) halves_of, length-take e edges)
