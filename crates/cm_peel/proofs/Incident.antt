-- What is left of the edges, vertex by vertex.
use Rattle.std.proofs.Common.{◌≡◌, ◌≢◌, ◌⊎◌, ℕ, zero, suc, ◌+◌, ◌*◌, ◌/◌, ◌%◌, ◌-◌, ◌<◌, ◌≤◌, Bool, true, false, cond, not, eqb, ◌&&◌, ◌||◌, List, [], ◌∷◌, length, get_or, map, set, Option, option_map, Some, None, sym, refl, ap, ◌∙◌, subst, inl, inr, arith}
use Rattle.std.specs.List.{count_by, list_any, slice_get, position_or_len}
use Rattle.std.proofs.lemmas.Bool.{both_ways, cases_Bool, cases_eq, or_left, or_right, and_parts, and_from, and_right, eq-eqb, eqb-true, ne_eqb, false≢true}
use Rattle.std.proofs.lemmas.Option.{get_or_from_slice_get, same_Some, slice_get-map, slice_get-get_or}
use Rattle.std.proofs.Math.ListN.{length-set}
use Rattle.std.proofs.lemmas.List.{length-map}
use Rattle.std.proofs.lemmas.List.Sums.{passes_at_first}
use Rattle.std.proofs.lemmas.List.Folds.{list_any_at}
use Rattle.cm_spec.specs.Lists.{numbers_from, has}
use Rattle.cm_spec.specs.Graph.{touches, places, ends_at, degree_in}
use Rattle.cm_spec.specs.Rounds.{is_left, left_after, level_of, pivot_of}
use Rattle.cm_graph_edges.specs.declared.incidence.Half.{Half}
use Rattle.cm_graph_edges.specs.Graph.{Graph, Links, lies_in, slot_touches, slot_of, degree_of, sole_of, place_of, halves_of, all_linked, removed, removed_all}
use Rattle.cm_peel.specs.Incident.{AreLinked, halves_where, is_half_left}
use Rattle.cm_peel.specs.SetLaws.{count_by-cons, count_by_two, place_within}
use Rattle.cm_peel.specs.RoundLaws.{has_place, has_left_from, is_left_before}
use Rattle.cm_peel.proofs.Falls.{fell_at, falls_level}
use Rattle.cm_peel.proofs.Sets.{and_true, same_from}

pub slice_get-set_same : {X : Type 0} (xs : List X) (i : ℕ) (y : X) → i < length xs → slice_get (set xs i y) i ≡ Some y
slice_get-set_same [] i y h = absurd (omega arith)
slice_get-set_same (x ∷ xs) zero y h = refl
slice_get-set_same (x ∷ xs) (suc i) y h = slice_get-set_same xs i y (omega arith)

pub slice_get-set_other : {X : Type 0} (xs : List X) (i k : ℕ) (y : X) → k ≢ i → slice_get (set xs i y) k ≡ slice_get xs k
slice_get-set_other [] i k y h = refl
slice_get-set_other (x ∷ xs) zero zero y h = absurd (h refl)
slice_get-set_other (x ∷ xs) zero (suc k) y h = refl
slice_get-set_other (x ∷ xs) (suc i) zero y h = refl
slice_get-set_other (x ∷ xs) (suc i) (suc k) y h = slice_get-set_other xs i k y (λ e. h (ap suc e))

abbrev pub place_in : Half → ℕ
place_in h = h.place

abbrev pub vertex_in : Half → ℕ
vertex_in h = h.vertex

-- the first position that passes is one, if there is one
pub any_before : (p : ℕ → Bool) (xs : List ℕ) → list_any p xs ≡ true → position_or_len p xs < length xs
any_before p [] h = absurd (false≢true h)
any_before p (x ∷ xs) h = go (p x) refl (any_before p xs) where
  go : (b : Bool) → p x ≡ b → (list_any p xs ≡ true → position_or_len p xs < length xs) → cond (not (p x)) (1 + position_or_len p xs) 0 < suc (length xs)
  go true is ih = rw is (omega arith)
  go false is ih =
      let h' : list_any p xs ≡ true = sym (ap (λ b. b || list_any p xs) is) ∙ h in
      rw is (omega (arith, ih h'))

-- the half-edges of one edge that pass a test
lies_if : (v u : ℕ) (b : Bool) → lies_in v (cond b (Some u) None) ≡ true → (b ≡ true) × (eqb u v ≡ true)
lies_if v u true h = (refl, h)
lies_if v u false h = absurd (false≢true h)

-- the first one that lies in a vertex
pub where_found : (test : ℕ → Bool) (j v : ℕ) (vs : List ℕ) → slot_touches v (halves_where test j vs) ≡ true
    → (k : ℕ) × (k ≡ position_or_len (lies_in v) (halves_where test j vs)) × (k < length vs) × (test (j + k) ≡ true) × (get_or vs k 0 ≡ v)
where_found test j v [] h = absurd (false≢true h)
where_found test j v (u ∷ us) h = go (lies_in v (cond (test j) (Some u) None)) refl h (where_found test (suc j) v us) where
  rest : List (Option ℕ)
  rest = halves_where test (suc j) us

  go : (b : Bool) → lies_in v (cond (test j) (Some u) None) ≡ b → (b || slot_touches v rest) ≡ true
      → (slot_touches v rest ≡ true → (k : ℕ) × (k ≡ position_or_len (lies_in v) rest) × (k < length us) × (test (suc j + k) ≡ true) × (get_or us k 0 ≡ v))
      → (k : ℕ) × (k ≡ cond (not b) (1 + position_or_len (lies_in v) rest) 0) × (k < suc (length us)) × (test (j + k) ≡ true) × (get_or (u ∷ us) k 0 ≡ v)
  go true is m ih =
      let a = lies_if v u (test j) is in
      let z : j ≡ j + 0 = omega arith in
      (0, refl, omega arith, ap test (sym z) ∙ a.0, eqb-true u v a.1)
  go false is m ih =
      let r = ih m in
      let z : suc j + r.0 ≡ j + suc r.0 = omega arith in
      (suc r.0, omega (arith, r.1), omega (arith, r.2), ap test (sym z) ∙ r.3, r.4)

pub where_there : (test : ℕ → Bool) (j v : ℕ) (vs : List ℕ) (k : ℕ) → k < length vs → test (j + k) ≡ true → get_or vs k 0 ≡ v → slot_touches v (halves_where test j vs) ≡ true
where_there test j v [] k h pass is = absurd (omega arith)
where_there test j v (u ∷ us) zero h pass is = let z : test j ≡ true = (let n : j ≡ j + 0 = omega arith in ap test n ∙ pass) in rw z (or_left _ _ (eq-eqb u v is))
where_there test j v (u ∷ us) (suc k) h pass is = or_right _ _ (where_there test (suc j) v us k (omega arith) (let n : suc j + k ≡ j + suc k = omega arith in ap test n ∙ pass) is)

-- the one at a position
pub where_at : (test : ℕ → Bool) (j u : ℕ) (vs : List ℕ) (i : ℕ) → slice_get (halves_where test j vs) i ≡ Some (Some u) → (i < length vs) × (test (j + i) ≡ true) × (get_or vs i 0 ≡ u)
where_at test j u [] i h = cc
where_at test j u (v ∷ vs) zero h = go (test j) refl h where
  go : (b : Bool) → test j ≡ b → Some (cond b (Some v) None) ≡ Some (Some u) → (0 < suc (length vs)) × (test (j + 0) ≡ true) × (v ≡ u)
  go true is e = (omega arith, (let n : j + 0 ≡ j = omega arith in ap test n ∙ is), same_Some _ _ (same_Some _ _ e))
  go false is e = cc
where_at test j u (v ∷ vs) (suc i) h =
    let r = where_at test (suc j) u vs i h in
    (omega (arith, r.0), (let n : j + suc i ≡ suc j + i = omega arith in ap test n ∙ r.1), r.2)

pub where_get : (test : ℕ → Bool) (j : ℕ) (vs : List ℕ) (i : ℕ) → i < length vs → test (j + i) ≡ true → slice_get (halves_where test j vs) i ≡ Some (Some (get_or vs i 0))
where_get test j [] i h pass = absurd (omega arith)
where_get test j (v ∷ vs) zero h pass = ap (λ b. Some (cond b (Some v) None)) (let n : j ≡ j + 0 = omega arith in ap test n ∙ pass)
where_get test j (v ∷ vs) (suc i) h pass = where_get test (suc j) vs i (omega arith) (let n : suc j + i ≡ j + suc i = omega arith in ap test n ∙ pass)

where_agree : (p q : ℕ → Bool) (j : ℕ) (vs : List ℕ) → ((k : ℕ) → k < length vs → q (j + k) ≡ p (j + k)) → halves_where q j vs ≡ halves_where p j vs
where_agree p q j [] same = refl
where_agree p q j (v ∷ vs) same =
    let z : j + 0 ≡ j = omega arith in
    let first : q j ≡ p j = ap q (sym z) ∙ (same 0 (omega arith) ∙ ap p z) in
    ap (λ b. cond b (Some v) None ∷ halves_where q (suc j) vs) first ∙ ap (λ hs. cond (p j) (Some v) None ∷ hs) (where_agree p q (suc j) vs (λ k h.
    let n : suc j + k ≡ j + suc k = omega arith in
    ap q n ∙ (same (suc k) (omega arith) ∙ ap p (sym n))))

-- one that is removed
where_without : (p : ℕ → Bool) (j i n : ℕ) (vs : List ℕ) → n ≡ j + i → set (halves_where p j vs) i None ≡ halves_where (λ k. p k && not (eqb n k)) j vs
where_without p j i n [] at = refl
where_without p j zero n (v ∷ vs) at =
    let gone : (p j && not (eqb n j)) ≡ false = and_right (p j) _ (ap not (eq-eqb n j (omega (arith, at)))) in
    ap (λ b. cond b (Some v) None ∷ halves_where p (suc j) vs) (sym gone) ∙ ap (λ hs. cond (p j && not (eqb n j)) (Some v) None ∷ hs) (sym (where_agree p (λ k. p k && not (eqb n k)) (suc j) vs (λ k h.
    ap (λ b. p (suc j + k) && not b) (ne_eqb n (suc j + k) (λ s. omega (arith, s, at))) ∙ and_true (p (suc j + k)))))
where_without p j (suc i) n (v ∷ vs) at =
    let still : (p j && not (eqb n j)) ≡ p j = ap (λ b. p j && not b) (ne_eqb n j (λ s. omega (arith, s, at))) ∙ and_true (p j) in
    ap (λ b. cond b (Some v) None ∷ set (halves_where p (suc j) vs) i None) (sym still) ∙ ap (λ hs. cond (p j && not (eqb n j)) (Some v) None ∷ hs) (where_without p (suc j) i n vs (omega (arith, at)))

-- two tests that agree
pub AreLinked-agree : (graph : Graph) (p q : ℕ → ℕ → Bool) (l : Links) → AreLinked graph p l → ((e j : ℕ) → e < length graph.edges → j < length (ends_at graph.edges e) → q e j ≡ p e j) → AreLinked graph q l
AreLinked-agree graph p q l a agree = record {
  vertices = a.vertices;
  many = a.many;
  each = λ e h. a.each e h ∙ ap Some (sym (where_agree (p e) (q e) 0 (ends_at graph.edges e) (λ k below. let z : 0 + k ≡ k = omega arith in rw z (agree e k h below))));
}

-- all edges linked
where_all : (j : ℕ) (vs : List ℕ) → halves_of vs ≡ halves_where (λ _. true) j vs
where_all j [] = refl
where_all j (v ∷ vs) = ap (λ hs. Some v ∷ hs) (where_all (suc j) vs)

pub linked_all : (graph : Graph) (l : Links) → l ≡ all_linked graph.vertices graph.edges → AreLinked graph (λ _ _. true) l
linked_all graph l is = rw is (record {
  vertices = refl;
  many = length-map graph.edges halves_of;
  each = λ e h. slice_get-map halves_of graph.edges e ∙ (ap (option_map halves_of) (slice_get-get_or graph.edges e [] h) ∙ ap Some (where_all 0 (ends_at graph.edges e)));
})

pub slot_is : (graph : Graph) (p : ℕ → ℕ → Bool) (l : Links) (e : ℕ) → AreLinked graph p l → e < length graph.edges → slot_of l e ≡ halves_where (p e) 0 (ends_at graph.edges e)
slot_is graph p l e a h = get_or_from_slice_get l.slots e (halves_where (p e) 0 (ends_at graph.edges e)) [] (a.each e h)

-- edges have few ends
abbrev pub AreShort : List (List ℕ) → Type 0
AreShort edges = (e : ℕ) → e < length edges → length (ends_at edges e) ≤ 4

same_eqb : (a b c d : ℕ) → (a ≡ b → c ≡ d) → (c ≡ d → a ≡ b) → eqb a b ≡ eqb c d
same_eqb a b c d to from = same_from (λ s. eq-eqb c d (to (eqb-true a b s))) (λ s. eq-eqb a b (from (eqb-true c d s)))

-- without the half-edge at a place
linked_without : (graph : Graph) (p : ℕ → ℕ → Bool) (l : Links) (x : ℕ) → AreShort graph.edges → AreLinked graph p l → AreLinked graph (λ e j. p e j && not (eqb x (4 * e + j))) (removed l x)
linked_without graph p l x short a = record {
  vertices = a.vertices;
  many = length-set _ _ _ ∙ a.many;
  each = λ e h. go e h (cases_eq e (x / 4));
} where
  q : ℕ → ℕ → Bool
  q e j = p e j && not (eqb x (4 * e + j))

  go : (e : ℕ) → e < length graph.edges → (e ≡ x / 4) ⊎ (e ≡ x / 4 → ⊥) → slice_get (set l.slots (x / 4) (set (slot_of l (x / 4)) (x % 4) None)) e ≡ Some (halves_where (q e) 0 (ends_at graph.edges e))
  go e h (inl same) =
      let ends : List ℕ = ends_at graph.edges e in
      let within : e < length l.slots = omega (arith, a.many) in
      let here : set (slot_of l e) (x % 4) None ≡ halves_where (q e) 0 ends = ap (λ (s : List (Option ℕ)). set s (x % 4) None) (slot_is graph p l e a h)
      ∙ (where_without (p e) 0 (x % 4) (x % 4) ends (omega arith) ∙ sym (where_agree (λ k. p e k && not (eqb (x % 4) k)) (q e) 0 ends (λ k below.
      let z : 0 + k ≡ k = omega arith in
      rw z (ap (λ b. p e k && not b) (same_eqb x (4 * e + k) (x % 4) k (λ s. omega (arith, s, short e h, below, same)) (λ s. omega (arith, s, same))))))) in
      subst (λ i. slice_get (set l.slots i (set (slot_of l i) (x % 4) None)) e ≡ Some (halves_where (q e) 0 ends)) same (slice_get-set_same l.slots e (set (slot_of l e) (x % 4) None) within ∙ ap Some here)
  go e h (inr other) =
      slice_get-set_other l.slots (x / 4) e _ other ∙ (a.each e h ∙ ap Some (sym (where_agree (p e) (q e) 0 (ends_at graph.edges e) (λ k below.
      let z : 0 + k ≡ k = omega arith in
      rw z (ap (λ b. p e k && not b) (ne_eqb x (4 * e + k) (λ s. other (omega (arith, s, short e h, below)))) ∙ and_true (p e k))))))

-- without those at some places
pub linked_removed : (graph : Graph) (p : ℕ → ℕ → Bool) (l : Links) (halves : List Half) → AreShort graph.edges → AreLinked graph p l → AreLinked graph (λ e j. p e j && not (has (map place_in halves) (4 * e + j))) (removed_all l halves)
linked_removed graph p l [] short a = AreLinked-agree graph p (λ e j. p e j && true) l a (λ e j h k. and_true (p e j))
linked_removed graph p l (x ∷ halves) short a =
    AreLinked-agree graph (λ e j. (p e j && not (eqb x.place (4 * e + j))) && not (has (map place_in halves) (4 * e + j))) (λ e j. p e j && not (eqb x.place (4 * e + j) || has (map place_in halves) (4 * e + j))) _
    (linked_removed graph (λ e j. p e j && not (eqb x.place (4 * e + j))) (removed l x.place) halves short (linked_without graph p l x.place short a)) (λ e j h k. both (p e j) (eqb x.place (4 * e + j)) (has (map place_in halves) (4 * e + j))) where
      both : (a b c : Bool) → (a && not (b || c)) ≡ ((a && not b) && not c)
      both true true c = refl
      both true false c = refl
      both false b c = refl

-- whether what is left of an edge touches a vertex
abbrev pub lies : List (List ℕ) → (ℕ → ℕ → Bool) → ℕ → ℕ → Bool
lies edges p v e = slot_touches v (halves_where (p e) 0 (ends_at edges e))

-- the degree of a vertex, by the test
count_slots : (edges : List (List ℕ)) (p : ℕ → ℕ → Bool) (v b n : ℕ) (slots : List (List (Option ℕ))) → length slots ≡ n → ((k : ℕ) → k < n → slice_get slots k ≡ Some (halves_where (p (b + k)) 0 (ends_at edges (b + k)))) → count_by (slot_touches v) slots ≡ count_by (lies edges p v) (numbers_from b n)
count_slots edges p v b zero [] long each = refl
count_slots edges p v b zero (s ∷ ss) long each = absurd (omega (arith, long))
count_slots edges p v b (suc n) [] long each = absurd (omega (arith, long))
count_slots edges p v b (suc n) (s ∷ ss) long each =
    let z : b + 0 ≡ b = omega arith in
    let first : s ≡ halves_where (p b) 0 (ends_at edges b) = same_Some _ _ (each 0 (omega arith)) ∙ ap (λ k. halves_where (p k) 0 (ends_at edges k)) z in
    let next : (k : ℕ) → suc b + k ≡ b + suc k = λ k. omega arith in
    let rest : count_by (slot_touches v) ss ≡ count_by (lies edges p v) (numbers_from (suc b) n) =
    count_slots edges p v (suc b) n ss (omega (arith, long)) (λ k h. each (suc k) (omega arith) ∙ ap (λ m. Some (halves_where (p m) 0 (ends_at edges m))) (sym (next k))) in
    count_by-cons (slot_touches v) s ss ∙ (ap (λ t. cond (slot_touches v t) 1 0 + count_by (slot_touches v) ss) first
    ∙ (ap (λ n. cond (lies edges p v b) 1 0 + n) rest ∙ sym (count_by-cons (lies edges p v) b (numbers_from (suc b) n))))

pub degree_is : (graph : Graph) (p : ℕ → ℕ → Bool) (l : Links) (v : ℕ) → AreLinked graph p l → degree_of l v ≡ count_by (lies graph.edges p v) (places graph.edges)
degree_is graph p l v a =
    let z : (k : ℕ) → 0 + k ≡ k = λ k. omega arith in
    count_slots graph.edges p v 0 (length graph.edges) l.slots a.many (λ k h. a.each k h ∙ ap (λ m. Some (halves_where (p m) 0 (ends_at graph.edges m))) (sym (z k)))

-- the one edge of a vertex
pub sole_found : (graph : Graph) (p : ℕ → ℕ → Bool) (l : Links) (v : ℕ) → AreLinked graph p l → degree_of l v ≡ 1 → (sole_of l v < length graph.edges) × (lies graph.edges p v (sole_of l v) ≡ true)
sole_found graph p l v a one =
    let s : ℕ = sole_of l v in
    let within : s < length l.slots = place_within (slot_touches v) l.slots (omega (arith, one)) in
    let short : s < length graph.edges = omega (arith, a.many) in
    let touching : slot_touches v (get_or l.slots s []) ≡ true = passes_at_first (slot_touches v) l.slots [] within in
    (short, ap (slot_touches v) (sym (slot_is graph p l s a short)) ∙ touching)

pub sole_is : (graph : Graph) (p : ℕ → ℕ → Bool) (l : Links) (v f : ℕ) → AreLinked graph p l → degree_of l v ≡ 1 → f < length graph.edges → lies graph.edges p v f ≡ true → sole_of l v ≡ f
sole_is graph p l v f a one h there = elim (cases_eq (sole_of l v) f) [
  | inl same ↦ same
  | inr other ↦
      let s = sole_found graph p l v a one in
      let two : 2 ≤ count_by (lies graph.edges p v) (places graph.edges) = count_by_two (lies graph.edges p v) (places graph.edges) (sole_of l v) f other (has_place graph.edges (sole_of l v) s.0) (has_place graph.edges f h) s.1 there in
      absurd (omega (arith, degree_is graph p l v a, one))
]

-- its place
pub place_found : (graph : Graph) (p : ℕ → ℕ → Bool) (l : Links) (v : ℕ) → AreLinked graph p l → degree_of l v ≡ 1
    → (k : ℕ) × (k < length (ends_at graph.edges (sole_of l v))) × (p (sole_of l v) k ≡ true) × (get_or (ends_at graph.edges (sole_of l v)) k 0 ≡ v) × (place_of l v ≡ 4 * sole_of l v + k)
place_found graph p l v a one =
    let s : ℕ = sole_of l v in
    let found = sole_found graph p l v a one in
    let r = where_found (p s) 0 v (ends_at graph.edges s) found.1 in
    let z : 0 + r.0 ≡ r.0 = omega arith in
    (r.0, r.2, ap (p s) (sym z) ∙ r.3, r.4, ap (λ x. 4 * s + position_or_len (lies_in v) x) (slot_is graph p l s a found.0) ∙ ap (λ n. 4 * s + n) (sym r.1))

position_where : (test : ℕ → Bool) (j v : ℕ) (vs : List ℕ) → ((k : ℕ) → k < length vs → test (j + k) ≡ true) → position_or_len (lies_in v) (halves_where test j vs) ≡ position_or_len (λ u. eqb u v) vs
position_where test j v [] all = refl
position_where test j v (u ∷ us) all =
    let z : j ≡ j + 0 = omega arith in
    ap (λ b. cond (not (lies_in v (cond b (Some u) None))) (1 + position_or_len (lies_in v) (halves_where test (suc j) us)) 0) (ap test z ∙ all 0 (omega arith))
    ∙ ap (λ n. cond (not (eqb u v)) (1 + n) 0) (position_where test (suc j) v us (λ k h. let n : suc j + k ≡ j + suc k = omega arith in ap test n ∙ all (suc k) (omega arith)))

-- what is left of an edge that has all of its half-edges touches its ends
pub whole_lies : (edges : List (List ℕ)) (p : ℕ → ℕ → Bool) (v f : ℕ) → ((j : ℕ) → j < length (ends_at edges f) → p f j ≡ true) → touches v (ends_at edges f) ≡ true → lies edges p v f ≡ true
whole_lies edges p v f all touching =
    let ends : List ℕ = ends_at edges f in
    let within = any_before (λ u. eqb u v) ends touching in
    let z : 0 + position_or_len (λ u. eqb u v) ends ≡ position_or_len (λ u. eqb u v) ends = omega arith in
    where_there (p f) 0 v ends (position_or_len (λ u. eqb u v) ends) within (ap (p f) z ∙ all _ within) (eqb-true _ _ (passes_at_first (λ u. eqb u v) ends 0 within))

pub place_is : (graph : Graph) (p : ℕ → ℕ → Bool) (l : Links) (v f : ℕ) → AreLinked graph p l → degree_of l v ≡ 1 → f < length graph.edges → ((j : ℕ) → j < length (ends_at graph.edges f) → p f j ≡ true) → touches v (ends_at graph.edges f) ≡ true
    → place_of l v ≡ 4 * f + position_or_len (λ u. eqb u v) (ends_at graph.edges f)
place_is graph p l v f a one h all touching =
    let edges : List (List ℕ) = graph.edges in
    let sole : sole_of l v ≡ f = sole_is graph p l v f a one h (whole_lies edges p v f all touching) in
    ap (λ s. 4 * s + position_or_len (lies_in v) (slot_of l s)) sole ∙ (ap (λ x. 4 * f + position_or_len (lies_in v) x) (slot_is graph p l f a h) ∙ ap (λ n. 4 * f + n) (position_where (p f) 0 v (ends_at edges f) (λ k low. let z : 0 + k ≡ k = omega arith in rw z (all k low))))

-- whether the pivot of an edge lies in a vertex
abbrev pub pivot_touches : List (List ℕ) → ℕ → ℕ → Bool
pivot_touches edges e v = slot_touches v (halves_where (λ j. eqb j (pivot_of edges e)) 0 (ends_at edges e))

-- the pivot of no edge that t rounds remove lies in the vertex
abbrev pub IsLive : List (List ℕ) → ℕ → ℕ → Type 0
IsLive edges t v = (e : ℕ) → e < length edges → is_left edges t e ≡ false → pivot_touches edges e v ≡ false

-- an edge touches its pivot's vertex, which has degree one when the edge's round begins
pub pivot_found : (edges : List (List ℕ)) (e v : ℕ) → pivot_touches edges e v ≡ true → (touches v (ends_at edges e) ≡ true) × (degree_in edges (left_after edges (level_of edges e - 1)) v ≡ 1)
pivot_found edges e v h =
    let r = where_found (λ j. eqb j (pivot_of edges e)) 0 v (ends_at edges e) h in
    let here : r.0 ≡ pivot_of edges e = omega (arith, eqb-true _ _ r.3) in
    let within : pivot_of edges e < length (ends_at edges e) = omega (arith, r.2) in
    let one : eqb (degree_in edges (left_after edges (level_of edges e - 1)) (get_or (ends_at edges e) (pivot_of edges e) 0)) 1 ≡ true =
    passes_at_first (λ u. eqb (degree_in edges (left_after edges (level_of edges e - 1)) u) 1) (ends_at edges e) 0 within in
    let at : get_or (ends_at edges e) (pivot_of edges e) 0 ≡ v = ap (λ k. get_or (ends_at edges e) k 0) (sym here) ∙ r.4 in (
      list_any_at (λ u. eqb u v) (ends_at edges e) r.0 0 r.2 (eq-eqb _ _ r.4),
      ap (degree_in edges (left_after edges (level_of edges e - 1))) (sym at) ∙ eqb-true _ _ one,
    )

-- no such pivot lies in an end of an edge that is left
pub live : (edges : List (List ℕ)) (t f v : ℕ) → f < length edges → is_left edges t f ≡ true → touches v (ends_at edges f) ≡ true → IsLive edges t v
live edges t f v h here touching e below gone = go (cases_Bool (pivot_touches edges e v)) where
  go : (pivot_touches edges e v ≡ true) ⊎ (pivot_touches edges e v ≡ false) → pivot_touches edges e v ≡ false
  go (inr m) = m
  go (inl m) =
      let found = pivot_found edges e v m in
      let fell = fell_at edges t e gone in
      let level : level_of edges e - 1 ≡ fell.0 = falls_level edges fell.0 e below fell.2 fell.3 in
      let one : degree_in edges (left_after edges fell.0) v ≡ 1 = ap (λ k. degree_in edges (left_after edges k) v) (sym level) ∙ found.1 in
      let two : 2 ≤ degree_in edges (left_after edges fell.0) v = count_by_two (λ x. touches v (ends_at edges x)) (left_after edges fell.0) e f (λ same. both_ways _ (ap (is_left edges t) (sym same) ∙ gone) here)
      (has_left_from edges fell.0 e below fell.2) (has_left_from edges fell.0 f h (is_left_before edges t fell.0 f (omega (arith, fell.1)) here)) found.0 touching in
      absurd (omega (arith, two, one))

-- which edges touch a vertex between two rounds
pub lies_left : (edges : List (List ℕ)) (t v e : ℕ) → (is_left edges t e ≡ false → pivot_touches edges e v ≡ false) → lies edges (is_half_left edges t) v e ≡ (is_left edges t e && touches v (ends_at edges e))
lies_left edges t v e alone = go (cases_Bool (is_left edges t e)) where
  go : (is_left edges t e ≡ true) ⊎ (is_left edges t e ≡ false) → lies edges (is_half_left edges t) v e ≡ (is_left edges t e && touches v (ends_at edges e))
  go (inl here) = same_from (λ m.
      let r = where_found (is_half_left edges t e) 0 v (ends_at edges e) m in
      and_from _ _ here (list_any_at (λ u. eqb u v) (ends_at edges e) r.0 0 r.2 (eq-eqb _ _ r.4))) (λ m. whole_lies edges (is_half_left edges t) v e (λ j _. or_left _ _ here) (and_parts _ _ m).1)
  go (inr gone) =
      ap (slot_touches v) (where_agree (λ j. eqb j (pivot_of edges e)) (is_half_left edges t e) 0 (ends_at edges e) (λ k h. ap (λ b. b || eqb (0 + k) (pivot_of edges e)) gone))
      ∙ (alone gone ∙ sym (ap (λ b. b && touches v (ends_at edges e)) gone))

-- the first position that passes is none after another that does
pub first_le : (p : ℕ → Bool) (xs : List ℕ) (k : ℕ) → k < length xs → p (get_or xs k 0) ≡ true → position_or_len p xs ≤ k
first_le p [] k h pass = absurd (omega arith)
first_le p (x ∷ xs) zero h pass = rw pass (omega arith)
first_le p (x ∷ xs) (suc k) h pass = go (p x) (first_le p xs k (omega arith) pass) where
  go : (b : Bool) → position_or_len p xs ≤ k → cond (not b) (1 + position_or_len p xs) 0 ≤ suc k
  go true le = omega arith
  go false le = omega arith
