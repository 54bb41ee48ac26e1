-- What the half-edges that are removed in a round leave, vertex by vertex.
use Rattle.std.proofs.Common.{◌≡◌, ◌≢◌, ◌⊎◌, ℕ, zero, suc, ◌+◌, ◌-◌, ◌*◌, ◌/◌, ◌%◌, ◌<◌, ◌≤◌, Bool, true, false, cond, not, eqb, ◌&&◌, ◌||◌, List, [], ◌∷◌, ◌++◌, length, get_or, map, take, drop, sym, refl, ap, ◌∙◌, subst, inl, inr, arith}
use Rattle.std.specs.List.{All, count_by, filter, list_any, position_or_len}
use Rattle.std.proofs.Math.Seq.{take-add}
use Rattle.std.proofs.lemmas.List.{map-append, take-append-drop}
use Rattle.std.proofs.lemmas.List.Folds.{list_any_at}
use Rattle.std.proofs.lemmas.List.Sums.{passes_at_first}
use Rattle.std.proofs.lemmas.Bool.{both_ways, cases_Bool, eqb-true, eq-eqb, ne_eqb, and_parts, and_from, or_cases, or_left, or_right, false≢true, not_from_false}
use Rattle.cm_spec.specs.Lists.{has}
use Rattle.cm_spec.specs.Graph.{AreEdges, touches, places, ends_at, degree_in}
use Rattle.cm_spec.specs.Rounds.{is_left, left_after, removed_after, level_of, pivot_of}
use Rattle.cm_graph_edges.specs.declared.incidence.Half.{Half}
use Rattle.cm_graph_edges.specs.Graph.{Graph, Links, is_free, degree_of, sole_of, place_of, places_of, removed_all, IsHalf, AreHalves}
use Rattle.cm_peel.specs.Incident.{AreLinked, is_half_left, other_halves_all, pivot_in}
use Rattle.cm_peel.specs.AtRound.{InRound, IsOtherPlace, is_half_kept, other_places}
use Rattle.cm_peel.specs.SetLaws.{Rises, Rises-from_increasing, rises_below, has-filter, count_by_some, count_by-le}
use Rattle.cm_peel.specs.RoundLaws.{has_place, place_below, removed_rises}
use Rattle.cm_peel.proofs.Falls.{removed_gone}
use Rattle.cm_peel.proofs.Incident.{AreShort, place_in, vertex_in, AreLinked-agree, linked_removed, IsLive, live, lies, where_found, where_there, whole_lies, degree_is, sole_found, place_found, place_is, any_before}
use Rattle.cm_peel.proofs.Halves.{All-others_all, others_agree, others_all-append, found_in, half_known, are_halves, others_place_found}
use Rattle.cm_peel.proofs.Sets.{same_from}
use Rattle.cm_peel.proofs.Taking.{has-append}
use Rattle.cm_peel.proofs.RoundFacts.{count_by_agree, has_map, has_map_from}
use Rattle.cm_peel.proofs.NextRound.{piece_rises, round_inside, round_rises}

-- a member that passes
pub any_found : (p : ℕ → Bool) (xs : List ℕ) → list_any p xs ≡ true → (v : ℕ) × (has xs v ≡ true) × (p v ≡ true)
any_found p [] h = absurd (false≢true h)
any_found p (x ∷ xs) h = go (or_cases (p x) (list_any p xs) h) (any_found p xs) where
  go : (p x ≡ true) ⊎ (list_any p xs ≡ true) → (list_any p xs ≡ true → (v : ℕ) × (has xs v ≡ true) × (p v ≡ true)) → (v : ℕ) × (has (x ∷ xs) v ≡ true) × (p v ≡ true)
  go (inl here) ih = (x, or_left _ _ (eq-eqb x x refl), here)
  go (inr more) ih = let r = ih more in (r.0, or_right (eqb x r.0) (has xs r.0) r.1, r.2)

pub any_from : (p : ℕ → Bool) (xs : List ℕ) (v : ℕ) → has xs v ≡ true → p v ≡ true → list_any p xs ≡ true
any_from p [] v h pass = absurd (false≢true h)
any_from p (x ∷ xs) v h pass = go (or_cases (eqb x v) (has xs v) h) (any_from p xs v) where
  go : (eqb x v ≡ true) ⊎ (has xs v ≡ true) → (has xs v ≡ true → p v ≡ true → list_any p xs ≡ true) → (p x || list_any p xs) ≡ true
  go (inl same) ih = or_left _ _ (ap p (eqb-true x v same) ∙ pass)
  go (inr more) ih = or_right _ _ (ih more pass)

pub take_member : (n : ℕ) (xs : List ℕ) (e : ℕ) → has (take n xs) e ≡ true → has xs e ≡ true
take_member n xs e m = ap (λ (ys : List ℕ). has ys e) (sym (take-append-drop n xs)) ∙ (has-append (take n xs) (drop n xs) e ∙ or_left _ _ m)

pub drop_member : (n : ℕ) (xs : List ℕ) (e : ℕ) → has (drop n xs) e ≡ true → has xs e ≡ true
drop_member n xs e m = ap (λ (ys : List ℕ). has ys e) (sym (take-append-drop n xs)) ∙ (has-append (take n xs) (drop n xs) e ∙ or_right (has (take n xs) e) _ m)

pub position_at : (v : ℕ) (ends : List ℕ) → touches v ends ≡ true → (position_or_len (λ u. eqb u v) ends < length ends) × (get_or ends (position_or_len (λ u. eqb u v) ends) 0 ≡ v)
position_at v ends h =
    let within = any_before (λ u. eqb u v) ends h in
    (within, eqb-true _ _ (passes_at_first (λ u. eqb u v) ends 0 within))

pub touches_at : (v : ℕ) (ends : List ℕ) (k : ℕ) → k < length ends → get_or ends k 0 ≡ v → touches v ends ≡ true
touches_at v ends k h is = list_any_at (λ u. eqb u v) ends k 0 h (eq-eqb _ _ is)

-- a place that is left alone is that of an end of degree one
pub record IsFreed (graph : Graph) (p : ℕ → ℕ → Bool) (m : Links) (x : ℕ) : Type 0 where
  pub inside : x / 4 < length graph.edges
  pub within : x % 4 < length (ends_at graph.edges (x / 4))
  pub passes : p (x / 4) (x % 4) ≡ true
  pub free : degree_of m (get_or (ends_at graph.edges (x / 4)) (x % 4) 0) ≡ 1

-- the place of the half-edge that is alone in a vertex
pub freed_place : (k : ℕ) (graph : Graph) (p : ℕ → ℕ → Bool) (m : Links) (v x : ℕ) → k ≤ 3 → AreEdges k graph.vertices graph.edges → AreLinked graph p m → degree_of m v ≡ 1 → place_of m v ≡ x → IsFreed graph p m x × (get_or (ends_at graph.edges (x / 4)) (x % 4) 0 ≡ v)
freed_place k graph p m v x small are linked one is =
    let edges : List (List ℕ) = graph.edges in
    let s = sole_found graph p m v linked one in
    let f : ℕ = sole_of m v in
    let at = place_found graph p m v linked one in
    let few : length (ends_at edges f) ≡ k = (are f [] s.0).0 in
    let place : x ≡ 4 * f + at.0 = sym is ∙ at.4 in
    let edge : x / 4 ≡ f = omega (arith, place, at.1, few) in
    let position : x % 4 ≡ at.0 = omega (arith, place, at.1, few) in (
      record {
        inside = rw edge s.0;
        within = rw (edge, position) at.1;
        passes = rw (edge, position) at.2;
        free = rw (edge, position) (ap (degree_of m) at.3 ∙ one);
      },
      rw (edge, position) at.3,
    )

pub few_ends : (k : ℕ) (graph : Graph) → k ≤ 3 → AreEdges k graph.vertices graph.edges → AreShort graph.edges
few_ends k graph small are e h = omega (arith, (are e [] h).0)

-- what is known of the links before and after some half-edges are removed
pub record AreRemoved (graph : Graph) (t : ℕ) (gone : List ℕ) (l m : Links) (halves : List Half) : Type 0 where
  pub before : AreLinked graph (is_half_kept graph.edges t gone) l
  pub after : AreLinked graph (is_half_kept graph.edges t (gone ++ map place_in halves)) m
  pub there : All (IsHalf l) halves
  pub others : (q : ℕ) → has (map place_in halves) q ≡ true → IsOtherPlace graph.edges t q
  pub all_others : (q : ℕ) → has (gone ++ map place_in halves) q ≡ true → IsOtherPlace graph.edges t q

kept_more : (edges : List (List ℕ)) (t : ℕ) (gone places : List ℕ) (e j : ℕ) → is_half_kept edges t (gone ++ places) e j ≡ (is_half_kept edges t gone e j && not (has places (4 * e + j)))
kept_more edges t gone places e j = ap (λ b. is_half_left edges t e j && not b) (has-append gone places (4 * e + j)) ∙ three (is_half_left edges t e j) (has gone (4 * e + j)) (has places (4 * e + j)) where
  three : (a b c : Bool) → (a && not (b || c)) ≡ ((a && not b) && not c)
  three true true c = refl
  three true false c = refl
  three false b c = refl

pub are_removed : (k : ℕ) (graph : Graph) (t : ℕ) (gone : List ℕ) (l m : Links) (next bytes : List ℕ) (halves : List Half) → k ≤ 3 → AreEdges k graph.vertices graph.edges → InRound graph t gone l next bytes → All (IsHalf l) halves
    → ((q : ℕ) → has (map place_in halves) q ≡ true → IsOtherPlace graph.edges t q) → m ≡ removed_all l halves → AreRemoved graph t gone l m halves
are_removed k graph t gone l m next bytes halves small are r there others is = record {
  before = r.linked;
  after = subst (λ (x : Links). AreLinked graph (is_half_kept graph.edges t (gone ++ map place_in halves)) x) (sym is)
      (AreLinked-agree graph (λ e j. is_half_kept graph.edges t gone e j && not (has (map place_in halves) (4 * e + j))) (is_half_kept graph.edges t (gone ++ map place_in halves)) (removed_all l halves)
      (linked_removed graph (is_half_kept graph.edges t gone) l halves (few_ends k graph small are) r.linked) (λ e j h low. kept_more graph.edges t gone (map place_in halves) e j));
  there = there;
  others = others;
  all_others = λ q m. by q (or_cases (has gone q) (has (map place_in halves) q) (sym (has-append gone (map place_in halves) q) ∙ m));
} where
  by : (q : ℕ) → (has gone q ≡ true) ⊎ (has (map place_in halves) q ≡ true) → IsOtherPlace graph.edges t q
  by q (inl m) = r.others q m
  by q (inr m) = others q m

-- an edge that is left after the round has all of its half-edges
kept_whole : (edges : List (List ℕ)) (t : ℕ) (gone : List ℕ) (e : ℕ) → AreShort edges → ((q : ℕ) → has gone q ≡ true → IsOtherPlace edges t q) → e < length edges → is_left edges (suc t) e ≡ true → (j : ℕ) → j < length (ends_at edges e) → is_half_kept edges t gone e j ≡ true
kept_whole edges t gone e short others h here j low = and_from _ _ (or_left _ _ (and_parts (is_left edges t e) _ here).0) (not_from_false _ (by (cases_Bool (has gone (4 * e + j))))) where
  by : (has gone (4 * e + j) ≡ true) ⊎ (has gone (4 * e + j) ≡ false) → has gone (4 * e + j) ≡ false
  by (inr m) = m
  by (inl m) =
      let edge : (4 * e + j) / 4 ≡ e = omega (arith, short e h) in
      let round : has (removed_after edges t) e ≡ true = subst (λ x. has (removed_after edges t) x ≡ true) edge (others (4 * e + j) m).0 in
      absurd (both_ways _ (removed_gone edges t e round) here)

-- what touches a vertex then touched it before
lies_before : (graph : Graph) (t : ℕ) (gone places : List ℕ) (v e : ℕ) → lies graph.edges (is_half_kept graph.edges t (gone ++ places)) v e ≡ true → lies graph.edges (is_half_kept graph.edges t gone) v e ≡ true
lies_before graph t gone places v e m =
    let edges : List (List ℕ) = graph.edges in
    let r = where_found (is_half_kept edges t (gone ++ places) e) 0 v (ends_at edges e) m in
    where_there (is_half_kept edges t gone e) 0 v (ends_at edges e) r.0 r.2 (and_parts _ _ (sym (kept_more edges t gone places e (0 + r.0)) ∙ r.3)).0 r.4

-- an end of degree one of an edge that is left keeps it
pub still_free : (graph : Graph) (t : ℕ) (gone : List ℕ) (l m : Links) (halves : List Half) (e v : ℕ) → AreShort graph.edges → AreRemoved graph t gone l m halves → e < length graph.edges → is_left graph.edges (suc t) e ≡ true → touches v (ends_at graph.edges e) ≡ true → degree_of l v ≡ 1 → degree_of m v ≡ 1
still_free graph t gone l m halves e v short u h here touching one =
    let edges : List (List ℕ) = graph.edges in
    let p : ℕ → ℕ → Bool = is_half_kept edges t gone in
    let q : ℕ → ℕ → Bool = is_half_kept edges t (gone ++ map place_in halves) in
    let less : count_by (lies edges q v) (places edges) ≤ count_by (lies edges p v) (places edges) = count_by-le (lies edges q v) (lies edges p v) (places edges) (λ x k. lies_before graph t gone (map place_in halves) v x k) in
    let some : 1 ≤ count_by (lies edges q v) (places edges) = count_by_some (lies edges q v) (places edges) e (has_place edges e h) (whole_lies edges q v e (kept_whole edges t (gone ++ map place_in halves) e short u.all_others h here) touching) in
    omega (arith, one, less, some, degree_is graph p l v u.before, degree_is graph q m v u.after)

-- a vertex in which no half-edge is removed keeps its degree
same_degree : (graph : Graph) (t : ℕ) (gone : List ℕ) (l m : Links) (halves : List Half) (v : ℕ) → AreShort graph.edges → AreRemoved graph t gone l m halves → has (map vertex_in halves) v ≡ false → degree_of m v ≡ degree_of l v
same_degree graph t gone l m halves v short u none =
    degree_is graph q m v u.after ∙ (count_by_agree (lies edges q v) (lies edges p v) (places edges) (λ e k. same_from (λ there. lies_before graph t gone (map place_in halves) v e there) (λ there. still e (place_below edges e k) there)) ∙ sym (degree_is graph p l v u.before)) where
      edges : List (List ℕ)
      edges = graph.edges

      p : ℕ → ℕ → Bool
      p = is_half_kept graph.edges t gone

      q : ℕ → ℕ → Bool
      q = is_half_kept graph.edges t (gone ++ map place_in halves)

      still : (e : ℕ) → e < length graph.edges → lies graph.edges p v e ≡ true → lies graph.edges q v e ≡ true
      still e h there =
          let r = where_found (p e) 0 v (ends_at edges e) there in
          where_there (q e) 0 v (ends_at edges e) r.0 r.2 (let z : 0 + r.0 ≡ r.0 = omega arith in kept_more edges t gone (map place_in halves) e (0 + r.0) ∙ and_from _ _ r.3 (not_from_false _ (ap (λ k. has (map place_in halves) (4 * e + k)) z ∙ by r.0 r.2 r.4 (cases_Bool (has (map place_in halves) (4 * e + r.0)))))) r.4 where
            by : (k : ℕ) → k < length (ends_at graph.edges e) → get_or (ends_at graph.edges e) k 0 ≡ v → (has (map place_in halves) (4 * e + k) ≡ true) ⊎ (has (map place_in halves) (4 * e + k) ≡ false) → has (map place_in halves) (4 * e + k) ≡ false
            by k low is (inr n) = n
            by k low is (inl n) =
                let f = found_in (IsHalf l) place_in halves (4 * e + k) u.there n in
                let edge : f.0.place / 4 ≡ e = omega (arith, f.1, low, short e h) in
                let position : f.0.place % 4 ≡ k = omega (arith, f.1, low, short e h) in
                let known = half_known graph p l f.0 u.before (omega (arith, edge, h)) f.2 in
                let vertex : f.0.vertex ≡ v = sym known.2 ∙ (ap (λ x. get_or (ends_at edges x) (f.0.place % 4) 0) edge ∙ (ap (λ x. get_or (ends_at edges e) x 0) position ∙ is)) in
                absurd (both_ways _ none (ap (has (map vertex_in halves)) (sym vertex) ∙ f.3 vertex_in))

-- an end of an edge that is left is listed if it gets degree one
pub newly_listed : (graph : Graph) (t : ℕ) (gone : List ℕ) (l m : Links) (halves : List Half) (e v : ℕ) → AreShort graph.edges → AreRemoved graph t gone l m halves → e < length graph.edges → is_left graph.edges (suc t) e ≡ true → touches v (ends_at graph.edges e) ≡ true → degree_of l v ≢ 1 → degree_of m v ≡ 1
    → has (places_of m halves) (4 * e + position_or_len (λ u. eqb u v) (ends_at graph.edges e)) ≡ true
newly_listed graph t gone l m halves e v short u h here touching more one = go (cases_Bool (has (map vertex_in halves) v)) where
  edges : List (List ℕ)
  edges = graph.edges

  q : ℕ → ℕ → Bool
  q = is_half_kept graph.edges t (gone ++ map place_in halves)

  go : (has (map vertex_in halves) v ≡ true) ⊎ (has (map vertex_in halves) v ≡ false) → has (places_of m halves) (4 * e + position_or_len (λ u. eqb u v) (ends_at graph.edges e)) ≡ true
  go (inr none) = absurd (more (sym (same_degree graph t gone l m halves v short u none) ∙ one))
  go (inl there) =
      let kept : has (filter (is_free m) (map vertex_in halves)) v ≡ true = has-filter (is_free m) (map vertex_in halves) v ∙ and_from _ _ there (eq-eqb _ 1 one) in
      let place : place_of m v ≡ 4 * e + position_or_len (λ w. eqb w v) (ends_at edges e) = place_is graph q m v e u.after one h (kept_whole edges t (gone ++ map place_in halves) e short u.all_others h here) touching in
      subst (λ x. has (places_of m halves) x ≡ true) place (has_map_from (place_of m) (filter (is_free m) (map vertex_in halves)) v kept)

-- a place that is listed is that of an edge that was left when the round began
pub freed_is : (k : ℕ) (graph : Graph) (t : ℕ) (gone : List ℕ) (l m : Links) (halves : List Half) (x : ℕ) → k ≤ 3 → AreEdges k graph.vertices graph.edges → AreRemoved graph t gone l m halves → has (places_of m halves) x ≡ true
    → IsFreed graph (is_half_kept graph.edges t (gone ++ map place_in halves)) m x × (is_left graph.edges t (x / 4) ≡ true)
freed_is k graph t gone l m halves x small are u listed = (freed.0, left (cases_Bool (is_left graph.edges t (x / 4)))) where
  edges : List (List ℕ)
  edges = graph.edges

  vertices : List ℕ
  vertices = map vertex_in halves

  r : (v : ℕ) × (has (filter (is_free m) (map vertex_in halves)) v ≡ true) × (place_of m v ≡ x)
  r = has_map (place_of m) (filter (is_free m) vertices) x listed

  v : ℕ
  v = r.0

  both : (has vertices v ≡ true) × (is_free m v ≡ true)
  both = and_parts (has vertices v) (is_free m v) (sym (has-filter (is_free m) vertices v) ∙ r.1)

  freed : IsFreed graph (is_half_kept graph.edges t (gone ++ map place_in halves)) m x × (get_or (ends_at graph.edges (x / 4)) (x % 4) 0 ≡ v)
  freed = freed_place k graph (is_half_kept graph.edges t (gone ++ map place_in halves)) m v x small are u.after (eqb-true _ _ both.1) r.2

  alive : IsLive graph.edges t v
  alive =
      let f = found_in (IsHalf l) vertex_in halves v u.there both.0 in
      let o = u.others f.0.place (f.3 place_in) in
      let at = round_inside edges t (f.0.place / 4) o.0 in
      let known = half_known graph (is_half_kept edges t gone) l f.0 u.before at.0 f.2 in
      live edges t (f.0.place / 4) v at.0 at.1 (touches_at v (ends_at edges (f.0.place / 4)) (f.0.place % 4) known.0 (known.2 ∙ f.1))

  left : (is_left graph.edges t (x / 4) ≡ true) ⊎ (is_left graph.edges t (x / 4) ≡ false) → is_left graph.edges t (x / 4) ≡ true
  left (inl here) = here
  left (inr gone_before) =
      let pivot : eqb (x % 4) (pivot_of edges (x / 4)) ≡ true = sym (ap (λ b. b || eqb (x % 4) (pivot_of edges (x / 4))) gone_before) ∙ (and_parts _ _ freed.0.passes).0 in
      absurd (both_ways _ (alive (x / 4) freed.0.inside gone_before) (where_there (λ j. eqb j (pivot_of edges (x / 4))) 0 v (ends_at edges (x / 4)) (x % 4) freed.0.within (let z : 0 + x % 4 ≡ x % 4 = omega arith in ap (λ j. eqb j (pivot_of edges (x / 4))) z ∙ pivot) freed.1))

-- what is known of a chunk
pub parts_apart : (low d : ℕ) (xs : List ℕ) (e : ℕ) → Rises low xs → has (drop d xs) e ≡ true → has (take d xs) e ≡ false
parts_apart low zero xs e up m = refl
parts_apart low (suc d) [] e up m = refl
parts_apart low (suc d) (x ∷ xs) e up m =
    let other : eqb x e ≡ false = ne_eqb x e (λ s. both_ways (has xs e) (rises_below (suc x) e xs up.1 (omega (arith, s))) (drop_member d xs e m)) in
    ap (λ b. b || has (take d xs) e) other ∙ parts_apart (suc x) d xs e up.1 m

-- a pivot is a position
pub pivot_small : (k : ℕ) (graph : Graph) (e : ℕ) → k ≤ 3 → AreEdges k graph.vertices graph.edges → e < length graph.edges → pivot_of graph.edges e ≤ 3
pivot_small k graph e small are h = omega (arith, position-le (λ v. eqb (degree_in graph.edges (left_after graph.edges (level_of graph.edges e - 1)) v) 1) (ends_at graph.edges e), (are e [] h).0) where
  position-le : (p : ℕ → Bool) (xs : List ℕ) → position_or_len p xs ≤ length xs
  position-le p [] = omega arith
  position-le p (x ∷ xs) = go (p x) (position-le p xs) where
    go : (b : Bool) → position_or_len p xs ≤ length xs → cond (not b) (1 + position_or_len p xs) 0 ≤ suc (length xs)
    go true le = omega arith
    go false le = omega arith

pub chunk_rises : (edges : List (List ℕ)) (t d n : ℕ) → d + n ≤ length (removed_after edges t) → Rises 0 (take n (drop d (removed_after edges t)))
chunk_rises edges t d n few = Rises-from_increasing 0 _ (piece_rises (removed_after edges t) d n (round_rises edges t) few) (λ _. omega arith)

-- the half-edges of a chunk, and those that went before
abbrev pub chunk_of : Graph → ℕ → ℕ → ℕ → List ℕ
chunk_of graph t d n = take n (drop d (removed_after graph.edges t))

abbrev pub gone_before : Graph → ℕ → ℕ → List ℕ
gone_before graph t d = other_places graph.edges (take d (removed_after graph.edges t))

-- the chunk that is read from the round
pub chunk_is : (graph : Graph) (t d n : ℕ) (round : List ℕ) → round ≡ removed_after graph.edges t → take (d + n - d) (drop d round) ≡ chunk_of graph t d n
chunk_is graph t d n round is =
    let moved : d + n - d ≡ n = omega arith in
    ap (λ j. take j (drop d round)) moved ∙ ap (λ (xs : List ℕ). take n (drop d xs)) is

pub chunk_member : (graph : Graph) (t d n e : ℕ) → has (chunk_of graph t d n) e ≡ true → has (removed_after graph.edges t) e ≡ true
chunk_member graph t d n e m = drop_member d (removed_after graph.edges t) e (take_member n (drop d (removed_after graph.edges t)) e m)

pub chunk_others : (k : ℕ) (graph : Graph) (t d n : ℕ) (gone : List ℕ) (l : Links) (next bytes : List ℕ) → k ≤ 3 → AreEdges k graph.vertices graph.edges → InRound graph t gone l next bytes → other_halves_all graph.edges (pivot_in bytes) (chunk_of graph t d n) ≡ other_halves_all graph.edges (pivot_of graph.edges) (chunk_of graph t d n)
chunk_others k graph t d n gone l next bytes small are r = others_agree graph.edges (pivot_in bytes) (pivot_of graph.edges) (chunk_of graph t d n) (λ e m.
    let at : has (removed_after graph.edges t) e ≡ true = chunk_member graph t d n e m in
    let h : e < length graph.edges = (round_inside graph.edges t e at).0 in
    omega (arith, r.byte e h (removed_gone graph.edges t e at), pivot_small k graph e small are h))

-- their places
pub others_are : (k : ℕ) (graph : Graph) (t : ℕ) (es : List ℕ) (q : ℕ) → k ≤ 3 → AreEdges k graph.vertices graph.edges → ((e : ℕ) → has es e ≡ true → has (removed_after graph.edges t) e ≡ true) → has (other_places graph.edges es) q ≡ true → (has es (q / 4) ≡ true) × IsOtherPlace graph.edges t q
others_are k graph t es q small are within m =
    let r = others_place_found graph.edges (pivot_of graph.edges) es q (λ e n. few_ends k graph small are e (round_inside graph.edges t e (within e n)).0) m in
    (r.0, (within (q / 4) r.0, r.1))

pub gone_more : (graph : Graph) (t d n : ℕ) → gone_before graph t d ++ map place_in (other_halves_all graph.edges (pivot_of graph.edges) (chunk_of graph t d n)) ≡ gone_before graph t (d + n)
gone_more graph t d n =
    let edges : List (List ℕ) = graph.edges in
    let round : List ℕ = removed_after edges t in
    let all : List ℕ → List Half = other_halves_all edges (pivot_of edges) in
    sym (map-append place_in (all (take d round)) (all (take n (drop d round)))) ∙ (ap (map place_in) (sym (others_all-append edges (pivot_of edges) (take d round) (take n (drop d round)))) ∙ ap (λ (xs : List ℕ). map place_in (all xs)) (sym (take-add d n round)))

-- the half-edges of a chunk are there, in vertices that are there
pub chunk_below : (k : ℕ) (graph : Graph) (t d n : ℕ) (gone : List ℕ) (l : Links) (next bytes : List ℕ) → k ≤ 3 → AreEdges k graph.vertices graph.edges → InRound graph t gone l next bytes → All (λ h. h.vertex < l.vertices) (other_halves_all graph.edges (pivot_of graph.edges) (chunk_of graph t d n))
chunk_below k graph t d n gone l next bytes small are r = All-others_all (λ h. h.vertex < l.vertices) graph.edges (pivot_of graph.edges) (chunk_of graph t d n) (λ e i m h.
    omega (arith, (are e [] (round_inside graph.edges t e (chunk_member graph t d n e m)).0).1.0 i 0 h, r.linked.vertices))

pub chunk_halves : (k : ℕ) (graph : Graph) (t d n : ℕ) (l : Links) (next bytes : List ℕ) → k ≤ 3 → AreEdges k graph.vertices graph.edges → InRound graph t (gone_before graph t d) l next bytes → d + n ≤ length (removed_after graph.edges t)
    → AreHalves l (other_halves_all graph.edges (pivot_of graph.edges) (chunk_of graph t d n))
chunk_halves k graph t d n l next bytes small are r few = are_halves graph (pivot_of graph.edges) (chunk_of graph t d n) (is_half_kept graph.edges t (gone_before graph t d)) l (few_ends k graph small are) r.linked (chunk_rises graph.edges t d n few)
    (λ e m. (round_inside graph.edges t e (chunk_member graph t d n e m)).0) (λ e j m h. passes e j m h (cases_Bool (has (gone_before graph t d) (4 * e + j)))) where
      passes : (e j : ℕ) → has (chunk_of graph t d n) e ≡ true → j < length (ends_at graph.edges e) → (has (gone_before graph t d) (4 * e + j) ≡ true) ⊎ (has (gone_before graph t d) (4 * e + j) ≡ false) → is_half_kept graph.edges t (gone_before graph t d) e j ≡ true
      passes e j m h (inr none) = and_from _ _ (or_left _ _ (round_inside graph.edges t e (chunk_member graph t d n e m)).1) (not_from_false _ none)
      passes e j m h (inl some) =
          let in₁ = others_are k graph t (take d (removed_after graph.edges t)) (4 * e + j) small are (λ x n. take_member d (removed_after graph.edges t) x n) some in
          let edge : (4 * e + j) / 4 ≡ e = omega (arith, h, few_ends k graph small are e (round_inside graph.edges t e (chunk_member graph t d n e m)).0) in
          let early : has (take d (removed_after graph.edges t)) e ≡ true = subst (λ x. has (take d (removed_after graph.edges t)) x ≡ true) edge in₁.0 in
          absurd (both_ways _ (parts_apart 0 d (removed_after graph.edges t) e (removed_rises graph.edges t) (take_member n (drop d (removed_after graph.edges t)) e m)) early)
