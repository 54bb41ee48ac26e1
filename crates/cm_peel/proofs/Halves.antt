-- The half-edges of some edges, except those of their pivots.
use Rattle.std.proofs.Common.{◌≡◌, ◌≢◌, ◌⊎◌, ℕ, zero, suc, ◌+◌, ◌*◌, ◌/◌, ◌%◌, ◌<◌, ◌≤◌, Bool, true, false, cond, not, eqb, ◌||◌, List, [], ◌∷◌, ◌++◌, length, get_or, set, take, map, sym, refl, ap, ◌∙◌, subst, inl, inr, arith, append-nil, append_assoc}
use Rattle.std.specs.List.{All, AllPairs, slice_get}
use Rattle.std.proofs.lemmas.Bool.{eq-eqb, eqb-true, eqb-false, or_cases, or_left, or_right, false≢true}
use mir.Val.{bool_byte}
use Rattle.std.proofs.lemmas.List.{map-append, get_or-map, length-map, length-take-le, take_more}
use Rattle.std.proofs.lemmas.List.Elements.{All-append}
use Rattle.std.proofs.lemmas.List.Kept.{AllPairs-from_increasing}
use Rattle.cm_spec.specs.Lists.{has}
use Rattle.cm_spec.specs.Graph.{ends_at}
use Rattle.cm_graph_edges.specs.declared.incidence.Half.{Half}
use Rattle.cm_graph_edges.specs.Graph.{Graph, Links, IsHalf, AreHalves}
use Rattle.cm_peel.specs.Incident.{AreLinked, other_halves, other_halves_all, pivot_in}
use Rattle.cm_peel.specs.SetLaws.{Rises, Rises-weaker, increasing_from_Rises}
use Rattle.cm_peel.proofs.Incident.{AreShort, place_in, slot_is, where_at, where_get}
use Rattle.cm_peel.proofs.Chunks.{written_if}
use Rattle.cm_peel.proofs.Taking.{has-append}

-- the half-edge of an edge at a position
abbrev pub half_of : ℕ → ℕ → ℕ → Half
half_of e j v = record { vertex = v; place = 4 * e + j }

-- what holds of each half-edge
pub All-one : {X : Type 0} (P : X → Type 0) (x : X) → P x → All P (x ∷ [])
All-one P x holds zero d h = holds
All-one P x holds (suc k) d h = absurd (omega arith)

All-others : (P : Half → Type 0) (e p j : ℕ) (vs : List ℕ) → ((k : ℕ) → k < length vs → P (half_of e (j + k) (get_or vs k 0))) → All P (other_halves e p j vs)
All-others P e p j [] each = λ k d h. absurd (omega arith)
All-others P e p j (v ∷ vs) each = All-append P _ (other_halves e p (suc j) vs) (first (eqb j p)) (All-others P e p (suc j) vs (λ k h. let s : suc j + k ≡ j + suc k = omega arith in subst (λ n. P (half_of e n (get_or vs k 0))) (sym s) (each (suc k) (omega arith)))) where
  first : (b : Bool) → All P (cond b [] (half_of e j v ∷ []))
  first true = λ k d h. absurd (omega arith)
  first false = All-one P (half_of e j v) (let z : j + 0 ≡ j = omega arith in subst (λ n. P (half_of e n v)) z (each 0 (omega arith)))

pub All-others_all : (P : Half → Type 0) (edges : List (List ℕ)) (pivots : ℕ → ℕ) (es : List ℕ) → ((e k : ℕ) → has es e ≡ true → k < length (ends_at edges e) → P (half_of e k (get_or (ends_at edges e) k 0))) → All P (other_halves_all edges pivots es)
All-others_all P edges pivots [] each = λ k d h. absurd (omega arith)
All-others_all P edges pivots (e ∷ es) each = All-append P (other_halves e (pivots e) 0 (ends_at edges e)) (other_halves_all edges pivots es)
    (All-others P e _ 0 (ends_at edges e) (λ k h. let z : 0 + k ≡ k = omega arith in subst (λ n. P (half_of e n (get_or (ends_at edges e) k 0))) (sym z) (each e k (or_left _ _ (eq-eqb e e refl)) h)))
    (All-others_all P edges pivots es (λ d k m h. each d k (or_right (eqb e d) _ m) h))

-- lists of them
pub others_agree : (edges : List (List ℕ)) (p q : ℕ → ℕ) (es : List ℕ) → ((e : ℕ) → has es e ≡ true → p e ≡ q e) → other_halves_all edges p es ≡ other_halves_all edges q es
others_agree edges p q [] same = refl
others_agree edges p q (e ∷ es) same =
    ap (λ j. other_halves e j 0 (ends_at edges e) ++ other_halves_all edges p es) (same e (or_left _ _ (eq-eqb e e refl)))
    ∙ ap (λ (hs : List Half). other_halves e (q e) 0 (ends_at edges e) ++ hs) (others_agree edges p q es (λ d m. same d (or_right (eqb e d) _ m)))

pub others_all-append : (edges : List (List ℕ)) (pivots : ℕ → ℕ) (xs ys : List ℕ) → other_halves_all edges pivots (xs ++ ys) ≡ other_halves_all edges pivots xs ++ other_halves_all edges pivots ys
others_all-append edges pivots [] ys = refl
others_all-append edges pivots (x ∷ xs) ys =
    ap (λ (hs : List Half). other_halves x (pivots x) 0 (ends_at edges x) ++ hs) (others_all-append edges pivots xs ys) ∙ sym (append_assoc (other_halves x (pivots x) 0 (ends_at edges x)) (other_halves_all edges pivots xs) (other_halves_all edges pivots ys))

-- a half-edge of a list
pub found_in : (P : Half → Type 0) (f : Half → ℕ) (halves : List Half) (x : ℕ) → All P halves → has (map f halves) x ≡ true → (h : Half) × (f h ≡ x) × P h × ((g : Half → ℕ) → has (map g halves) (g h) ≡ true)
found_in P f [] x all m = absurd (false≢true m)
found_in P f (h ∷ hs) x all m = go (or_cases (eqb (f h) x) (has (map f hs) x) m) (found_in P f hs x (λ i d low. all (suc i) d (omega arith))) where
  go : (eqb (f h) x ≡ true) ⊎ (has (map f hs) x ≡ true) → (has (map f hs) x ≡ true → (y : Half) × (f y ≡ x) × P y × ((g : Half → ℕ) → has (map g hs) (g y) ≡ true)) → (y : Half) × (f y ≡ x) × P y × ((g : Half → ℕ) → has (map g (h ∷ hs)) (g y) ≡ true)
  go (inl same) ih = (h, eqb-true _ _ same, all 0 h (omega arith), λ g. or_left _ _ (eq-eqb (g h) (g h) refl))
  go (inr more) ih = let r = ih more in (r.0, r.1, r.2, λ g. or_right (eqb (g h) (g r.0)) _ (r.3 g))

-- what is known of one that is there
pub half_known : (graph : Graph) (p : ℕ → ℕ → Bool) (l : Links) (h : Half) → AreLinked graph p l → h.place / 4 < length graph.edges → IsHalf l h
    → (h.place % 4 < length (ends_at graph.edges (h.place / 4))) × (p (h.place / 4) (h.place % 4) ≡ true) × (get_or (ends_at graph.edges (h.place / 4)) (h.place % 4) 0 ≡ h.vertex)
half_known graph p l h a inside there =
    let i : ℕ = h.place % 4 in
    let r = where_at (p (h.place / 4)) 0 h.vertex (ends_at graph.edges (h.place / 4)) i (ap (λ s. slice_get s i) (sym (slot_is graph p l (h.place / 4) a inside)) ∙ there) in
    let z : i ≡ 0 + i = omega arith in
    (r.0, ap (p (h.place / 4)) z ∙ r.1, r.2)

-- their places rise
Rises-append : (low mid : ℕ) (xs ys : List ℕ) → Rises low xs → ((x : ℕ) → has xs x ≡ true → x < mid) → low ≤ mid → Rises mid ys → Rises low (xs ++ ys)
Rises-append low mid [] ys r below h s = Rises-weaker mid low ys h s
Rises-append low mid (x ∷ xs) ys r below h s = (r.0, Rises-append (suc x) mid xs ys r.1 (λ y m. below y (or_right (eqb x y) _ m)) (omega (arith, below x (or_left _ _ (eq-eqb x x refl)))) s)

places_rise : (e p j : ℕ) (vs : List ℕ) → Rises (4 * e + j) (map place_in (other_halves e p j vs))
places_rise e p j [] = tt
places_rise e p j (v ∷ vs) = go (eqb j p) (places_rise e p (suc j) vs) where
  go : (b : Bool) → Rises (4 * e + suc j) (map place_in (other_halves e p (suc j) vs)) → Rises (4 * e + j) (map place_in (cond b [] (half_of e j v ∷ []) ++ other_halves e p (suc j) vs))
  go true r = Rises-weaker (4 * e + suc j) (4 * e + j) _ (omega arith) r
  go false r = (omega arith, Rises-weaker (4 * e + suc j) (suc (4 * e + j)) _ (omega arith) r)

other_place_found : (e p j : ℕ) (vs : List ℕ) (q : ℕ) → has (map place_in (other_halves e p j vs)) q ≡ true → (k : ℕ) × (k < length vs) × (j + k ≢ p) × (q ≡ 4 * e + (j + k))
other_place_found e p j [] q m = absurd (false≢true m)
other_place_found e p j (v ∷ vs) q m = go (eqb j p) refl m (other_place_found e p (suc j) vs q) where
  rest : List ℕ
  rest = map place_in (other_halves e p (suc j) vs)

  later : (has rest q ≡ true → (k : ℕ) × (k < length vs) × (suc j + k ≢ p) × (q ≡ 4 * e + (suc j + k))) → has rest q ≡ true → (k : ℕ) × (k < suc (length vs)) × (j + k ≢ p) × (q ≡ 4 * e + (j + k))
  later ih n = let r = ih n in (suc r.0, omega (arith, r.1), (λ s. r.2 (omega (arith, s))), omega (arith, r.3))

  go : (b : Bool) → eqb j p ≡ b → has (map place_in (cond b [] (half_of e j v ∷ []) ++ other_halves e p (suc j) vs)) q ≡ true → (has rest q ≡ true → (k : ℕ) × (k < length vs) × (suc j + k ≢ p) × (q ≡ 4 * e + (suc j + k)))
      → (k : ℕ) × (k < suc (length vs)) × (j + k ≢ p) × (q ≡ 4 * e + (j + k))
  go true is n ih = later ih n
  go false is n ih = by (or_cases (eqb (4 * e + j) q) _ n) where
    by : (eqb (4 * e + j) q ≡ true) ⊎ (has rest q ≡ true) → (k : ℕ) × (k < suc (length vs)) × (j + k ≢ p) × (q ≡ 4 * e + (j + k))
    by (inl same) = (0, omega arith, (λ s. eqb-false j p is (omega (arith, s))), omega (arith, eqb-true _ _ same))
    by (inr more) = later ih more

other_place_there : (e p j : ℕ) (vs : List ℕ) (k : ℕ) → k < length vs → j + k ≢ p → has (map place_in (other_halves e p j vs)) (4 * e + (j + k)) ≡ true
other_place_there e p j [] k h ne = absurd (omega arith)
other_place_there e p j (v ∷ vs) zero h ne = go (eqb j p) refl where
  go : (b : Bool) → eqb j p ≡ b → has (map place_in (cond b [] (half_of e j v ∷ []) ++ other_halves e p (suc j) vs)) (4 * e + (j + 0)) ≡ true
  go true same = absurd (ne (omega (arith, eqb-true j p same)))
  go false other = or_left _ _ (eq-eqb (4 * e + j) (4 * e + (j + 0)) (omega arith))
other_place_there e p j (v ∷ vs) (suc k) h ne =
    let n : suc j + k ≡ j + suc k = omega arith in
    go (eqb j p) (subst (λ i. has (map place_in (other_halves e p (suc j) vs)) (4 * e + i) ≡ true) n (other_place_there e p (suc j) vs k (omega arith) (λ s. ne (omega (arith, s))))) where
      go : (b : Bool) → has (map place_in (other_halves e p (suc j) vs)) (4 * e + (j + suc k)) ≡ true → has (map place_in (cond b [] (half_of e j v ∷ []) ++ other_halves e p (suc j) vs)) (4 * e + (j + suc k)) ≡ true
      go true m = m
      go false m = or_right _ _ m

pub all_rise : (edges : List (List ℕ)) (pivots : ℕ → ℕ) (es : List ℕ) (low : ℕ) → Rises low es → ((e : ℕ) → has es e ≡ true → length (ends_at edges e) ≤ 4) → Rises (4 * low) (map place_in (other_halves_all edges pivots es))
all_rise edges pivots [] low up short = tt
all_rise edges pivots (e ∷ es) low up short =
    let first : List Half = other_halves e (pivots e) 0 (ends_at edges e) in
    let few : length (ends_at edges e) ≤ 4 = short e (or_left _ _ (eq-eqb e e refl)) in
    subst (Rises (4 * low)) (sym (map-append place_in first (other_halves_all edges pivots es))) (Rises-append (4 * low) (4 * suc e) (map place_in first) _ (Rises-weaker (4 * e + 0) (4 * low) _ (omega (arith, up.0)) (places_rise e _ 0 (ends_at edges e)))
    (λ x m. let r = other_place_found e _ 0 (ends_at edges e) x m in omega (arith, r.1, r.3)) (omega (arith, up.0)) (all_rise edges pivots es (suc e) up.1 (λ d m. short d (or_right (eqb e d) _ m))))

-- they are there, each of them once
pub are_halves : (graph : Graph) (pivots : ℕ → ℕ) (es : List ℕ) (p : ℕ → ℕ → Bool) (l : Links) → AreShort graph.edges → AreLinked graph p l → Rises 0 es → ((e : ℕ) → has es e ≡ true → e < length graph.edges)
    → ((e j : ℕ) → has es e ≡ true → j < length (ends_at graph.edges e) → p e j ≡ true) → AreHalves l (other_halves_all graph.edges pivots es)
are_halves graph pivots es p l short a up inside passes = (there, apart) where
  halves : List Half
  halves = other_halves_all graph.edges pivots es

  there : All (IsHalf l) (other_halves_all graph.edges pivots es)
  there = All-others_all (IsHalf l) graph.edges pivots es (λ e k m h. half e k m h) where
    half : (e k : ℕ) → has es e ≡ true → k < length (ends_at graph.edges e) → IsHalf l (half_of e k (get_or (ends_at graph.edges e) k 0))
    half e k m h =
        let few : length (ends_at graph.edges e) ≤ 4 = short e (inside e m) in
        let edge : (4 * e + k) / 4 ≡ e = omega arith in
        let position : (4 * e + k) % 4 ≡ k = omega arith in
        rw (edge, position) (ap (λ s. slice_get s k) (slot_is graph p l e a (inside e m)) ∙ where_get (p e) 0 (ends_at graph.edges e) k h (let z : 0 + k ≡ k = omega arith in ap (p e) z ∙ passes e k m h))

  apart : AllPairs (λ a b. a.place ≢ b.place) (other_halves_all graph.edges pivots es)
  apart i j d low h =
      let xs : List ℕ = map place_in halves in
      let long : length (map place_in halves) ≡ length halves = length-map halves place_in in
      let up' = increasing_from_Rises (4 * 0) xs (all_rise graph.edges pivots es 0 up (λ e m. short e (inside e m))) in
      let less : get_or xs i d.place < get_or xs j d.place = AllPairs-from_increasing xs up' i j d.place low (omega arith) in
      let one : get_or xs i d.place ≡ (get_or halves i d).place = get_or-map place_in halves i d d.place (omega arith) in
      let two : get_or xs j d.place ≡ (get_or halves j d).place = get_or-map place_in halves j d d.place h in
      λ s. absurd (omega (arith, less, one, two, s))

-- their places, edge by edge
pub others_place_found : (edges : List (List ℕ)) (pivots : ℕ → ℕ) (es : List ℕ) (q : ℕ) → ((e : ℕ) → has es e ≡ true → length (ends_at edges e) ≤ 4) → has (map place_in (other_halves_all edges pivots es)) q ≡ true → (has es (q / 4) ≡ true) × (q % 4 ≢ pivots (q / 4))
others_place_found edges pivots [] q short m = absurd (false≢true m)
others_place_found edges pivots (e ∷ es) q short m = go (or_cases (has (map place_in first) q) (has (map place_in rest) q) (sym (has-append (map place_in first) (map place_in rest) q) ∙ (ap (λ (xs : List ℕ). has xs q) (sym (map-append place_in first rest)) ∙ m))) (others_place_found edges pivots es q (λ d n. short d (or_right (eqb e d) _ n))) where
  first : List Half
  first = other_halves e (pivots e) 0 (ends_at edges e)

  rest : List Half
  rest = other_halves_all edges pivots es

  go : (has (map place_in first) q ≡ true) ⊎ (has (map place_in rest) q ≡ true) → (has (map place_in rest) q ≡ true → (has es (q / 4) ≡ true) × (q % 4 ≢ pivots (q / 4))) → (has (e ∷ es) (q / 4) ≡ true) × (q % 4 ≢ pivots (q / 4))
  go (inl here) ih =
      let r = other_place_found e (pivots e) 0 (ends_at edges e) q here in
      let few : length (ends_at edges e) ≤ 4 = short e (or_left _ _ (eq-eqb e e refl)) in
      let edge : q / 4 ≡ e = omega (arith, few, r.1, r.3) in
      let position : q % 4 ≡ r.0 = omega (arith, few, r.1, r.3) in
      let z : 0 + r.0 ≡ r.0 = omega arith in
      (or_left _ _ (eq-eqb e (q / 4) (sym edge)), λ s. r.2 (z ∙ (sym position ∙ (s ∙ ap pivots edge))))
  go (inr more) ih = let r = ih more in (or_right (eqb e (q / 4)) _ r.0, r.1)

pub others_place_there : (edges : List (List ℕ)) (pivots : ℕ → ℕ) (es : List ℕ) (e j : ℕ) → has es e ≡ true → j < length (ends_at edges e) → j ≢ pivots e → has (map place_in (other_halves_all edges pivots es)) (4 * e + j) ≡ true
others_place_there edges pivots [] e j m h other = absurd (false≢true m)
others_place_there edges pivots (d ∷ es) e j m h other = ap (λ (xs : List ℕ). has xs (4 * e + j)) (map-append place_in first rest) ∙ (has-append (map place_in first) (map place_in rest) (4 * e + j) ∙ go (or_cases (eqb d e) (has es e) m) (λ n. others_place_there edges pivots es e j n h other)) where
  first : List Half
  first = other_halves d (pivots d) 0 (ends_at edges d)

  rest : List Half
  rest = other_halves_all edges pivots es

  go : (eqb d e ≡ true) ⊎ (has es e ≡ true) → (has es e ≡ true → has (map place_in rest) (4 * e + j) ≡ true) → (has (map place_in first) (4 * e + j) || has (map place_in rest) (4 * e + j)) ≡ true
  go (inl same) ih = or_left _ _ (subst (λ x. has (map place_in (other_halves x (pivots x) 0 (ends_at edges x))) (4 * e + j) ≡ true) (sym (eqb-true d e same)) (let z : 0 + j ≡ j = omega arith in subst (λ i. has (map place_in (other_halves e (pivots e) 0 (ends_at edges e))) (4 * e + i) ≡ true) z (other_place_there e (pivots e) 0 (ends_at edges e) j h (λ s. other (sym z ∙ s)))))
  go (inr more) ih = or_right (has (map place_in first) (4 * e + j)) _ (ih more)

-- one more end, and one more edge
pub others-push : (e p j : ℕ) (vs : List ℕ) (v : ℕ) → other_halves e p j (vs ++ v ∷ []) ≡ other_halves e p j vs ++ cond (eqb (j + length vs) p) [] (half_of e (j + length vs) v ∷ [])
others-push e p j [] v = let z : j + 0 ≡ j = omega arith in rw z (append-nil _)
others-push e p j (u ∷ us) v =
    let s : suc j + length us ≡ j + suc (length us) = omega arith in
    let rest = subst (λ n. other_halves e p (suc j) (us ++ v ∷ []) ≡ other_halves e p (suc j) us ++ cond (eqb n p) [] (half_of e n v ∷ [])) s (others-push e p (suc j) us v) in
    ap (λ (hs : List Half). cond (eqb j p) [] (half_of e j u ∷ []) ++ hs) rest ∙ sym (append_assoc (cond (eqb j p) [] (half_of e j u ∷ [])) (other_halves e p (suc j) us) _)

-- a half-edge that is written in any case, and counted if it is another one than the pivot's
pub others_written : (e p i at : ℕ) (ends : List ℕ) (halves front : List Half) → i < length ends → at < length halves → take at halves ≡ front ++ other_halves e p 0 (take i ends)
    → take (at + bool_byte (not (eqb i p))) (set halves at (half_of e i (get_or ends i 0))) ≡ front ++ other_halves e p 0 (take (i + 1) ends)
others_written e p i at ends halves front h room was =
    let v : ℕ = get_or ends i 0 in
    let long : 0 + length (take i ends) ≡ i = omega (arith, length-take-le i ends (omega arith)) in
    let more : other_halves e p 0 (take (i + 1) ends) ≡ other_halves e p 0 (take i ends) ++ cond (eqb i p) [] (half_of e i v ∷ []) =
    ap (other_halves e p 0) (take_more ends i 0 h) ∙ (others-push e p 0 (take i ends) v ∙ ap (λ n. other_halves e p 0 (take i ends) ++ cond (eqb n p) [] (half_of e n v ∷ [])) long) in
    written_if (not (eqb i p)) halves at (half_of e i v) room ∙ (ap (λ (hs : List Half). hs ++ cond (not (eqb i p)) (half_of e i v ∷ []) []) was ∙ (append_assoc front (other_halves e p 0 (take i ends)) _
    ∙ ap (λ (hs : List Half). front ++ hs) (ap (λ (hs : List Half). other_halves e p 0 (take i ends) ++ hs) (flip (eqb i p) (half_of e i v)) ∙ sym more))) where
      flip : (b : Bool) (x : Half) → cond (not b) (x ∷ []) [] ≡ cond b [] (x ∷ [])
      flip true x = refl
      flip false x = refl

-- one more edge of a chunk
pub others_next : (edges : List (List ℕ)) (bytes chunk : List ℕ) (i q : ℕ) (now new : List Half) (ends : List ℕ) → i < length chunk → now ≡ other_halves_all edges (pivot_in bytes) (take i chunk) → q ≡ get_or bytes (get_or chunk i 0) 0 → ends ≡ ends_at edges (get_or chunk i 0)
    → new ≡ now ++ other_halves (get_or chunk i 0) (q % 4) 0 ends → new ≡ other_halves_all edges (pivot_in bytes) (take (i + 1) chunk)
others_next edges bytes chunk i q now new ends h was byte are is =
    let e : ℕ = get_or chunk i 0 in
    let all : List ℕ → List Half = other_halves_all edges (pivot_in bytes) in
    is ∙ (ap (λ (hs : List Half). hs ++ other_halves e (q % 4) 0 ends) was ∙ (ap (λ n. all (take i chunk) ++ other_halves e (n % 4) 0 ends) byte
    ∙ (ap (λ (vs : List ℕ). all (take i chunk) ++ other_halves e (pivot_in bytes e) 0 vs) are ∙ (ap (λ (hs : List Half). all (take i chunk) ++ hs) (sym (append-nil (other_halves e (pivot_in bytes e) 0 (ends_at edges e))))
    ∙ (sym (others_all-append edges (pivot_in bytes) (take i chunk) (e ∷ [])) ∙ ap all (sym (take_more chunk i 0 h)))))))
