-- The degrees while some of the half-edges are linked: none is greater than when all of them are.
use Rattle.std.proofs.Common.{◌≡◌, ◌⊎◌, ◌+◌, ◌-◌, ◌/◌, ◌<◌, ◌≤◌, ℕ, zero, suc, Bool, true, false, cond, eqb, ◌||◌, List, [], ◌∷◌, ◌++◌, length, get_or, set, take, map, replicate, Option, Some, None, Vec, Global, sym, refl, ap, ◌∙◌, subst, inl, inr, arith}
use Rattle.std.specs.List.{count_by, position_or_len}
use Rattle.std.proofs.lemmas.Bool.{cases_lt, false≢true}
use Rattle.std.proofs.lemmas.List.{get_or_past, get_or-map, length-map}
use Rattle.std.proofs.lemmas.List.Sums.{count_by-le-length, sum_by-append, sum_by-cons, sum_by-set}
use Rattle.std.proofs.lemmas.Option.{none-some}
use Rattle.cm_spec.specs.Graph.{ends_at}
use Rattle.cm_graph_edges.specs.Graph.{AreDegreesWithin, Links, all_linked, degree_of, halves_of, lies_in, linked, slot_touches}
use Rattle.cm_graph.specs.Next.{AreNext, half_at, halves_at}
use Rattle.cm_graph.specs.Waiting.{AreSplit, Buckets, waiting_in}
use Rattle.cm_graph_edges.specs.declared.incidence.Half.{Half}
use Rattle.cm_graph.proofs.Linking.{linked_first, relinked}
use Rattle.cm_graph.proofs.Positions.{bare_count, count_new, touched_at, touches_at}
use Rattle.cm_graph.proofs.Splitting.{apart, next, popped, vertex}
use Rattle.cm_spec.specs.declared.limits.TheConstants.{MAX_EDGES}

abbrev one_if : Bool → ℕ
one_if b = cond b 1 0

one_le : (a b : Bool) → (a ≡ true → b ≡ true) → one_if a ≤ one_if b
one_le true b h = let one : cond {A = ℕ} b 1 0 ≡ 1 = ap one_if (h refl) in omega (arith, one)
one_le false true h = omega arith
one_le false false h = omega arith

-- if each element of a list that passes has one at its place in the other that passes
count_le : {X : Type 0} (f : X → Bool) (xs ys : List X) (d : X) → length xs ≤ length ys → ((i : ℕ) → i < length xs → f (get_or xs i d) ≡ true → f (get_or ys i d) ≡ true) → count_by f xs ≤ count_by f ys
count_le f [] ys d h pass = omega arith
count_le f (x ∷ xs) [] d h pass = absurd (omega (arith, h))
count_le f (x ∷ xs) (y ∷ ys) d h pass = omega (
  arith,
  sum_by-cons (λ z. cond (f z) 1 0) x xs,
  sum_by-cons (λ z. cond (f z) 1 0) y ys,
  one_le (f x) (f y) (pass 0 (omega arith)),
  count_le f xs ys d (omega (arith, h)) (λ i below. pass (suc i) (omega (arith, below))),
)

-- no degree is greater than the number of edges
pub within_edges : (l : Links) → length l.slots ≤ MAX_EDGES → AreDegreesWithin MAX_EDGES l
within_edges l few v below = omega (arith, count_by-le-length (slot_touches v) l.slots, few)

-- the first edges
count_first : (v e : ℕ) (edges : List (List ℕ)) → count_by (slot_touches v) (map halves_of (take e edges)) ≤ count_by (slot_touches v) (map halves_of edges)
count_first v zero edges = omega arith
count_first v (suc e) [] = omega arith
count_first v (suc e) (ends ∷ edges) = omega (
  arith,
  sum_by-cons (λ z. cond (slot_touches v z) 1 0) (halves_of ends) (map halves_of (take e edges)),
  sum_by-cons (λ z. cond (slot_touches v z) 1 0) (halves_of ends) (map halves_of edges),
  count_first v e edges,
)

pub within_first : (most n e : ℕ) (edges : List (List ℕ)) → AreDegreesWithin most (all_linked n edges) → AreDegreesWithin most (linked_first n edges e)
within_first most n e edges within v below = omega (
  arith,
  sum_by-append (λ z. cond (slot_touches v z) 1 0) (map halves_of (take e edges)) (replicate (length edges - e) []),
  bare_count (length edges - e) v,
  count_first v e edges,
  within v below,
)

-- the first ends of an edge
touches_first : (v j : ℕ) (ends : List ℕ) → slot_touches v (halves_of (take j ends)) ≡ true → slot_touches v (halves_of ends) ≡ true
touches_first v zero ends h = absurd (false≢true h)
touches_first v (suc j) [] h = h
touches_first v (suc j) (u ∷ ends) h = go (eqb u v) (touches_first v j ends) h where
  go : (b : Bool) → (slot_touches v (halves_of (take j ends)) ≡ true → slot_touches v (halves_of ends) ≡ true) → (b || slot_touches v (halves_of (take j ends))) ≡ true → (b || slot_touches v (halves_of ends)) ≡ true
  go true later h = refl
  go false later h = later h

pub room_at : (most : ℕ) (l : Links) (e j : ℕ) (ends : List ℕ) (h : Half) → AreNext (linked l e (take j ends)).slots (set (linked l e (take j ends)).slots e (halves_of (take (j + 1) ends))) h
    → slot_touches h.vertex (halves_at (linked l e (take j ends)).slots (h.place / 4)) ≡ false → e < length l.slots → h.vertex < l.vertices
    → AreDegreesWithin most (linked l e ends) → degree_of (linked l e (take j ends)) h.vertex < most
room_at most l e j ends h n free within known few =
    let more : count_by (slot_touches h.vertex) (linked l e (take (j + 1) ends)).slots ≡ degree_of (linked l e (take j ends)) h.vertex + 1 = ap (λ (x : Links). count_by (slot_touches h.vertex) x.slots) (sym (relinked l e (take j ends) (take (j + 1) ends))) ∙ count_new n free in
    let some = sum_by-set (λ z. cond (slot_touches h.vertex z) 1 0) l.slots e (halves_of (take (j + 1) ends)) [] within in
    let all = sum_by-set (λ z. cond (slot_touches h.vertex z) 1 0) l.slots e (halves_of ends) [] within in
    omega (arith, more, some, all, one_le (slot_touches h.vertex (halves_of (take (j + 1) ends))) (slot_touches h.vertex (halves_of ends)) (touches_first h.vertex (j + 1) ends), few h.vertex known)

-- the half-edges that don't wait
module _ {k n : ℕ} {edges : List (List ℕ)} {l : Links} {buckets : Buckets} (s : AreSplit k n edges l buckets) where
  touches_split : (v e : ℕ) → slot_touches v (halves_at l.slots e) ≡ true → slot_touches v (halves_at (map halves_of edges) e) ≡ true
  touches_split v e touches = go (cases_lt e (length edges)) (cases_lt at (length slot)) where
    slot : List (Option ℕ)
    slot = halves_at l.slots e

    at : ℕ
    at = position_or_len (lies_in v) slot

    there : half_at l.slots e at ≡ Some v
    there = touched_at v slot touches

    go : (e < length edges) ⊎ (length edges ≤ e) → (at < length slot) ⊎ (length slot ≤ at) → slot_touches v (halves_at (map halves_of edges) e) ≡ true
    go (inr past) x = absurd (false≢true (ap (slot_touches v) (sym (get_or_past l.slots e [] (omega (arith, past, s.long)))) ∙ touches))
    go (inl below) (inr past) = absurd (none-some v (sym (get_or_past slot at None past) ∙ there))
    go (inl below) (inl inside) =
        let wide : length (ends_at edges e) ≡ k = (s.ended e [] below).0 in
        ap (slot_touches v) (get_or-map halves_of edges e [] [] below)
        ∙ touches_at v at (halves_of (ends_at edges e)) (get_or-map Some (ends_at edges e) at 0 None (omega (arith, inside, s.short e, wide)) ∙ ap Some (sym (s.there e at v there)))

  pub within_split : (v : ℕ) → degree_of l v ≤ degree_of (all_linked n edges) v
  within_split v = count_le (slot_touches v) l.slots (map halves_of edges) [] (omega (arith, s.long, length-map edges halves_of)) (λ e _. touches_split v e)

-- the vertex of a half-edge that waits has room for it
pub room_in : {k n : ℕ} {edges : List (List ℕ)} {l : Links} {buckets : Buckets} (s : AreSplit k n edges l buckets) (b : ℕ) (v : Vec Half Global) (h : Half) → b < length buckets → waiting_in buckets b ≡ v.items ++ h ∷ []
    → (most : ℕ) → AreDegreesWithin most (all_linked n edges) → degree_of l h.vertex < most
room_in {k} {n} s b v h within last most few =
    omega (arith, count_new (next s b v h within last) (apart s b v h within last), within_split (popped s b v h within last) h.vertex, few h.vertex (subst (λ m. h.vertex < m) s.vertices (vertex s b v h within last)))
