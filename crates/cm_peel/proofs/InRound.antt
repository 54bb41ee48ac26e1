-- What the removal of some half-edges does in a round.
use Rattle.std.proofs.Common.{◌≡◌, ◌⊎◌, ℕ, suc, ◌+◌, ◌-◌, ◌*◌, ◌/◌, ◌%◌, ◌<◌, ◌≤◌, Bool, true, false, cond, not, eqb, ltb, ◌&&◌, ◌||◌, List, [], ◌∷◌, ◌++◌, length, get_or, map, sym, refl, ap, ◌∙◌, subst, inl, inr, arith}
use Rattle.std.specs.List.{All, filter, position_or_len}
use Rattle.std.proofs.lemmas.List.Sorted.{length_permutation}
use Rattle.std.proofs.lemmas.List.Elements.{All-from_get_or, Contains-get_or}
use Rattle.std.proofs.lemmas.List.Sums.{passes_at_first}
use Rattle.std.proofs.lemmas.Bool.{both_ways, cases_Bool, cases_lt, eqb-true, eqb-false, eq-eqb, ne_eqb, lt-ltb, le-ltb, and_parts, and_from, and_left, and_right, or_cases, or_left, or_right, cond-true, cond-false, false≢true, not_from_false}
use Rattle.cm_spec.specs.Lists.{has}
use Rattle.cm_spec.specs.Graph.{AreEdges, places, touches, ends_at}
use Rattle.cm_spec.specs.Rounds.{is_left, left_after, level_of}
use Rattle.cm_graph_edges.specs.declared.incidence.Half.{Half}
use Rattle.cm_graph_edges.specs.Graph.{Graph, Links, is_free, degree_of, places_of, removed_all, IsHalf}
use Rattle.cm_peel.specs.Incident.{is_picked, free_position}
use Rattle.cm_peel.specs.AtRound.{InRound, AreTaken, IsOtherPlace, is_half_kept, tag_of, is_listed, least}
use Rattle.cm_peel.specs.Peeling.{is_taken}
use Rattle.cm_peel.specs.SetLaws.{has-from_Contains}
use Rattle.cm_peel.specs.CoreLaws.{left_after_is}
use Rattle.cm_peel.proofs.Falls.{falls_level}
use Rattle.cm_peel.proofs.Sets.{and_true, same_from}
use Rattle.cm_peel.proofs.Listing.{kept_moved}
use Rattle.cm_peel.proofs.Incident.{AreShort, place_in, any_before, first_le}
use Rattle.cm_peel.proofs.Taking.{has-append, AreApart-append, least-le, least-le_listed, least-low, least-unlisted, least-is}
use Rattle.cm_peel.proofs.Unlinking.{any_found, any_from, AreRemoved, are_removed, IsFreed, freed_is, few_ends, newly_listed, still_free, position_at, touches_at, pivot_small}

-- some half-edges of the round are removed, in any order, and the places that this leaves alone are taken
pub in_round_more : (k : ℕ) (graph : Graph) (t : ℕ) (gone : List ℕ) (l m : Links) (halves : List Half) (next bytes next' bytes' : List ℕ) → k ≤ 3 → AreEdges k graph.vertices graph.edges → InRound graph t gone l next bytes → All (IsHalf l) halves
    → ((q : ℕ) → has (map place_in halves) q ≡ true → IsOtherPlace graph.edges t q) → m ≡ removed_all l halves → AreTaken t (places_of m halves) bytes bytes' next next' → InRound graph t (gone ++ map place_in halves) m next' bytes'
in_round_more k graph t gone l m halves next bytes next' bytes' small are r there others is taken = rw taken.next_is (record {
  linked = removed.after;
  others = removed.all_others;
  apart = AreApart-append next taken.fresh r.apart taken.apart old_not_fresh;
  inside = λ e h. inside e (or_cases (has next e) (has taken.fresh e) (sym (has-append next taken.fresh e) ∙ h));
  members = λ e h. has-append next taken.fresh e ∙ members e h (cases_Bool (is_left edges (suc t) e)) (cases_Bool (has next e));
  bytes_long = taken.bytes_long ∙ r.bytes_long;
  byte = λ e h gone. removed_byte e h gone (cases_Bool (is_left edges t e)) ∙ r.byte e h gone;
  next_byte = λ e h. next_byte e (or_cases (has next e) (has taken.fresh e) (sym (has-append next taken.fresh e) ∙ h));
  taken = λ e h. are_taken e h (cases_Bool (has next e)) (cases_Bool (has taken.fresh e)) (cases_Bool (is_left edges (suc t) e));
}) where
  edges : List (List ℕ)
  edges = graph.edges

  places : List ℕ
  places = places_of m halves

  short : AreShort graph.edges
  short = few_ends k graph small are

  removed : AreRemoved graph t gone l m halves
  removed = are_removed k graph t gone l m next bytes halves small are r there others is

  freed : (x : ℕ) → has (places_of m halves) x ≡ true → IsFreed graph (is_half_kept graph.edges t (gone ++ map place_in halves)) m x × (is_left graph.edges t (x / 4) ≡ true)
  freed x h = freed_is k graph t gone l m halves x small are removed h

  -- the edge of a place that is listed
  listed : (e : ℕ) → is_listed (places_of m halves) e ≡ true → (x : ℕ) × (has (places_of m halves) x ≡ true) × (x / 4 ≡ e)
  listed e h = let f = any_found (λ x. eqb (x / 4) e) places h in (f.0, f.1, eqb-true _ _ f.2)

  listed_left : (e : ℕ) → is_listed (places_of m halves) e ≡ true → (e < length graph.edges) × (is_left graph.edges t e ≡ true)
  listed_left e h =
      let f = listed e h in
      let x = freed f.0 f.1 in
      (omega (arith, x.0.inside, f.2), ap (is_left edges t) (sym f.2) ∙ x.1)

  listed_picked : (e : ℕ) → is_listed (places_of m halves) e ≡ true → is_picked m graph.edges e ≡ true
  listed_picked e h =
      let f = listed e h in
      let x = (freed f.0 f.1).0 in
      let y : is_picked m edges (f.0 / 4) ≡ true = any_from (is_free m) (ends_at edges (f.0 / 4)) _ (touches_at _ (ends_at edges (f.0 / 4)) (f.0 % 4) x.within refl) (eq-eqb _ 1 x.free) in
      subst (λ z. is_picked m edges z ≡ true) f.2 y

  -- a free end that an edge gets is listed
  fresh_end : (e v : ℕ) → e < length graph.edges → is_left graph.edges (suc t) e ≡ true → touches v (ends_at graph.edges e) ≡ true → eqb (degree_of l v) 1 ≡ false → degree_of m v ≡ 1 → has (places_of m halves) (4 * e + position_or_len (λ u. eqb u v) (ends_at graph.edges e)) ≡ true
  fresh_end e v h here touching more one = newly_listed graph t gone l m halves e v short removed h here touching (eqb-false _ _ more) one

  place_of_end : (e v : ℕ) → e < length graph.edges → touches v (ends_at graph.edges e) ≡ true → ((4 * e + position_or_len (λ u. eqb u v) (ends_at graph.edges e)) / 4 ≡ e) × ((4 * e + position_or_len (λ u. eqb u v) (ends_at graph.edges e)) % 4 ≡ position_or_len (λ u. eqb u v) (ends_at graph.edges e))
  place_of_end e v h touching =
      let at = position_at v (ends_at graph.edges e) touching in
      let low : position_or_len (λ u. eqb u v) (ends_at graph.edges e) < 4 = omega (arith, at.0, (are e [] h).0) in
      (omega arith, omega arith)

  -- what was taken before
  within_not_fresh : (e : ℕ) → is_taken bytes e ≡ true → has taken.fresh e ≡ false
  within_not_fresh e h = taken.members e ∙ and_right (is_listed places e) _ (ap not h)

  old_not_fresh : (e : ℕ) → has next e ≡ true → has taken.fresh e ≡ false
  old_not_fresh e h = within_not_fresh e (r.taken e (r.inside e h) ∙ or_left (has next e) _ h)

  inside : (e : ℕ) → (has next e ≡ true) ⊎ (has taken.fresh e ≡ true) → e < length graph.edges
  inside e (inl h) = r.inside e h
  inside e (inr h) = (listed_left e (and_parts (is_listed places e) _ (sym (taken.members e) ∙ h)).0).0

  members : (e : ℕ) → e < length graph.edges → (is_left graph.edges (suc t) e ≡ true) ⊎ (is_left graph.edges (suc t) e ≡ false) → (has next e ≡ true) ⊎ (has next e ≡ false) → (has next e || has taken.fresh e) ≡ (is_left graph.edges (suc t) e && is_picked m graph.edges e)
  members e h (inl here) (inl o) =
      let pick : is_picked l edges e ≡ true = (and_parts (is_left edges (suc t) e) _ (sym (r.members e h) ∙ o)).1 in
      let f = any_found (is_free l) (ends_at edges e) pick in
      let still : degree_of m f.0 ≡ 1 = still_free graph t gone l m halves e f.0 short removed h here f.1 (eqb-true _ _ f.2) in
      or_left (has next e) (has taken.fresh e) o ∙ sym (and_from _ _ here (any_from (is_free m) (ends_at edges e) f.0 f.1 (eq-eqb _ 1 still)))
  members e h (inl here) (inr o) =
      let open_byte : not (is_taken bytes e) ≡ true = ap not (r.taken e h ∙ (ap (λ b. b || not (is_left edges (suc t) e)) o ∙ ap not here)) in
      let unpicked : is_picked l edges e ≡ false = sym (r.members e h ∙ ap (λ b. b && is_picked l edges e) here) ∙ o in
      ap (λ b. b || has taken.fresh e) o ∙ (taken.members e ∙ (ap (λ b. is_listed places e && b) open_byte ∙ (and_true (is_listed places e)
      ∙ (same_from (λ s. listed_picked e s) (λ s. newly e h here unpicked s) ∙ sym (ap (λ b. b && is_picked m edges e) here))))) where
        newly : (e : ℕ) → e < length graph.edges → is_left graph.edges (suc t) e ≡ true → is_picked l graph.edges e ≡ false → is_picked m graph.edges e ≡ true → is_listed (places_of m halves) e ≡ true
        newly e h here unpicked pick =
            let f = any_found (is_free m) (ends_at graph.edges e) pick in
            let more : eqb (degree_of l f.0) 1 ≡ false = by (cases_Bool (eqb (degree_of l f.0) 1)) in
            let x = fresh_end e f.0 h here f.1 more (eqb-true _ _ f.2) in
            any_from (λ x. eqb (x / 4) e) (places_of m halves) _ x (eq-eqb _ _ (place_of_end e f.0 h f.1).0) where
              by : (eqb (degree_of l (any_found (is_free m) (ends_at graph.edges e) pick).0) 1 ≡ true) ⊎ (eqb (degree_of l (any_found (is_free m) (ends_at graph.edges e) pick).0) 1 ≡ false) → eqb (degree_of l (any_found (is_free m) (ends_at graph.edges e) pick).0) 1 ≡ false
              by (inr b) = b
              by (inl b) = absurd (both_ways _ unpicked (any_from (is_free l) (ends_at graph.edges e) (any_found (is_free m) (ends_at graph.edges e) pick).0 (any_found (is_free m) (ends_at graph.edges e) pick).1 b))
  members e h (inr gone) o =
      let none : has next e ≡ false = r.members e h ∙ and_left _ (is_picked l edges e) gone in
      let old : is_taken bytes e ≡ true = r.taken e h ∙ or_right (has next e) _ (not_from_false _ gone) in
      ap (λ b. b || has taken.fresh e) none ∙ (within_not_fresh e old ∙ sym (and_left _ (is_picked m edges e) gone))

  -- the byte of a removed edge stays
  removed_byte : (e : ℕ) → e < length graph.edges → is_left graph.edges (suc t) e ≡ false → (is_left graph.edges t e ≡ true) ⊎ (is_left graph.edges t e ≡ false) → get_or bytes' e 0 ≡ get_or bytes e 0
  removed_byte e h gone (inl here) =
      let level : level_of edges e - 1 ≡ t = falls_level edges t e h here gone in
      let tag : tag_of (level_of edges e - 1) ≡ 4 * (t % 2) = ap tag_of level in
      let same : get_or bytes e 0 / 4 ≡ t % 2 = omega (arith, r.byte e h gone, tag, pivot_small k graph e small are h) in
      taken.byte e (omega (arith, r.bytes_long)) ∙ cond-true _ _ _ (eq-eqb _ _ same)
  removed_byte e h gone (inr before) = taken.byte e (omega (arith, r.bytes_long)) ∙ by (eqb (get_or bytes e 0 / 4) (t % 2)) (least-unlisted (tag_of (suc t)) places e (get_or bytes e 0) (none (cases_Bool (is_listed places e)))) where
    none : (is_listed (places_of m halves) e ≡ true) ⊎ (is_listed (places_of m halves) e ≡ false) → is_listed (places_of m halves) e ≡ false
    none (inr no_place) = no_place
    none (inl some) = absurd (both_ways _ before (listed_left e some).1)

    by : (c : Bool) → least (tag_of (suc t)) (places_of m halves) e (get_or bytes e 0) ≡ get_or bytes e 0 → cond c (get_or bytes e 0) (least (tag_of (suc t)) (places_of m halves) e (get_or bytes e 0)) ≡ get_or bytes e 0
    by true l = refl
    by false l = l

  -- the byte of an edge of the next round
  old_byte : (e : ℕ) → has next e ≡ true → (free_position l graph.edges e < length (ends_at graph.edges e)) × (is_free l (get_or (ends_at graph.edges e) (free_position l graph.edges e) 0) ≡ true)
  old_byte e m =
      let pick : is_picked l edges e ≡ true = (and_parts (is_left edges (suc t) e) _ (sym (r.members e (r.inside e m)) ∙ m)).1 in
      let within = any_before (is_free l) (ends_at edges e) pick in
      (within, passes_at_first (is_free l) (ends_at edges e) 0 within)

  untaken_high : (e : ℕ) → has taken.fresh e ≡ true → 8 ≤ get_or bytes e 0
  untaken_high e m = by (cases_lt (get_or bytes e 0) 8) where
    by : (get_or bytes e 0 < 8) ⊎ (8 ≤ get_or bytes e 0) → 8 ≤ get_or bytes e 0
    by (inr high) = high
    by (inl low) = absurd (both_ways _ (within_not_fresh e (lt-ltb _ 8 low)) m)

  other_tag : (e : ℕ) → (has next e ≡ true) ⊎ (has taken.fresh e ≡ true) → eqb (get_or bytes e 0 / 4) (t % 2) ≡ false
  other_tag e (inl m) =
      let low : free_position l edges e < 3 = omega (arith, (old_byte e m).0, (are e [] (r.inside e m)).0) in
      ne_eqb _ _ (λ s. absurd (omega (arith, s, low, r.next_byte e m)))
  other_tag e (inr m) = ne_eqb _ _ (λ s. absurd (omega (arith, s, untaken_high e m)))

  least_at : (e : ℕ) → (has next e ≡ true) ⊎ (has taken.fresh e ≡ true) → get_or bytes' e 0 ≡ least (tag_of (suc t)) (places_of m halves) e (get_or bytes e 0)
  least_at e o = taken.byte e (omega (arith, r.bytes_long, inside e o)) ∙ cond-false _ _ _ (other_tag e o)

  after : (e : ℕ) → (has next e ≡ true) ⊎ (has taken.fresh e ≡ true) → (is_left graph.edges (suc t) e ≡ true) × (is_picked m graph.edges e ≡ true)
  after e o =
      let h : e < length edges = inside e o in
      and_parts (is_left edges (suc t) e) (is_picked m edges e) (sym (members e h (cases_Bool (is_left edges (suc t) e)) (cases_Bool (has next e))) ∙ by o) where
        by : (has next e ≡ true) ⊎ (has taken.fresh e ≡ true) → (has next e || has taken.fresh e) ≡ true
        by (inl m) = or_left _ _ m
        by (inr m) = or_right (has next e) _ m

  next_byte : (e : ℕ) → (has next e ≡ true) ⊎ (has taken.fresh e ≡ true) → get_or bytes' e 0 ≡ tag_of (suc t) + free_position m graph.edges e
  next_byte e o =
      let low = below e o (cases_Bool (is_free l (get_or (ends_at graph.edges e) (free_position m graph.edges e) 0))) in
      let high = above e o (least-is (tag_of (suc t)) places e (get_or bytes e 0)) in
      omega (arith, least_at e o, low, high) where
        below : (e : ℕ) → (has next e ≡ true) ⊎ (has taken.fresh e ≡ true) → (is_free l (get_or (ends_at graph.edges e) (free_position m graph.edges e) 0) ≡ true) ⊎ (is_free l (get_or (ends_at graph.edges e) (free_position m graph.edges e) 0) ≡ false)
            → least (tag_of (suc t)) (places_of m halves) e (get_or bytes e 0) ≤ tag_of (suc t) + free_position m graph.edges e
        below e o (inl was) =
            let ends : List ℕ = ends_at graph.edges e in
            let h : e < length edges = inside e o in
            let within : free_position m graph.edges e < length ends = any_before (is_free m) ends (after e o).1 in
            let pick : is_picked l edges e ≡ true = any_from (is_free l) ends _ (touches_at _ ends (free_position m graph.edges e) within refl) was in
            let old : has next e ≡ true = r.members e h ∙ and_from _ _ (after e o).0 pick in
            omega (arith, least-le (tag_of (suc t)) (places_of m halves) e (get_or bytes e 0), r.next_byte e old, first_le (is_free l) ends (free_position m graph.edges e) within was)
        below e o (inr was) =
            let ends : List ℕ = ends_at graph.edges e in
            let h : e < length edges = inside e o in
            let within : free_position m graph.edges e < length ends = any_before (is_free m) ends (after e o).1 in
            let v : ℕ = get_or ends (free_position m graph.edges e) 0 in
            let touching : touches v ends ≡ true = touches_at v ends (free_position m graph.edges e) within refl in
            let x = fresh_end e v h (after e o).0 touching was (eqb-true _ _ (passes_at_first (is_free m) ends 0 within)) in
            let place = place_of_end e v h touching in
            omega (arith, least-le_listed (tag_of (suc t)) (places_of m halves) _ e (get_or bytes e 0) x place.0, place.1, first_le (λ u. eqb u v) ends (free_position m graph.edges e) within (eq-eqb v v refl))

        above : (e : ℕ) → (has next e ≡ true) ⊎ (has taken.fresh e ≡ true)
            → (least (tag_of (suc t)) (places_of m halves) e (get_or bytes e 0) ≡ get_or bytes e 0) ⊎ ((q : ℕ) × (has (places_of m halves) q ≡ true) × (q / 4 ≡ e) × (least (tag_of (suc t)) (places_of m halves) e (get_or bytes e 0) ≡ tag_of (suc t) + q % 4))
            → tag_of (suc t) + free_position m graph.edges e ≤ least (tag_of (suc t)) (places_of m halves) e (get_or bytes e 0)
        above e (inl m₁) (inl same) =
            let old = old_byte e m₁ in
            let h : e < length edges = r.inside e m₁ in
            let ends : List ℕ = ends_at graph.edges e in
            let v : ℕ = get_or ends (free_position l graph.edges e) 0 in
            let still : degree_of m v ≡ 1 = still_free graph t gone l m halves e v short removed h (after e (inl m₁)).0 (touches_at v ends (free_position l graph.edges e) old.0 refl) (eqb-true _ _ old.1) in
            omega (arith, same, r.next_byte e m₁, first_le (is_free m) ends (free_position l graph.edges e) old.0 (eq-eqb _ 1 still))
        above e (inr m₁) (inl same) =
            let place : is_listed (places_of m halves) e ≡ true = (and_parts (is_listed (places_of m halves) e) _ (sym (taken.members e) ∙ m₁)).0 in
            let tag : tag_of (suc t) ≤ 4 = omega arith in
            absurd (omega (arith, same, untaken_high e m₁, least-low (tag_of (suc t)) (places_of m halves) e (get_or bytes e 0) tag place))
        above e o (inr q) =
            let x = (freed q.0 q.1).0 in
            let first : free_position m graph.edges (q.0 / 4) ≤ q.0 % 4 = first_le (is_free m) (ends_at graph.edges (q.0 / 4)) (q.0 % 4) x.within (eq-eqb _ 1 x.free) in
            let at : free_position m graph.edges e ≤ q.0 % 4 = subst (λ z. free_position m graph.edges z ≤ q.0 % 4) q.2 first in
            omega (arith, at, q.3)

  -- which are taken then
  no_more : (e : ℕ) → e < length graph.edges → get_or bytes' e 0 ≤ get_or bytes e 0
  no_more e h = by (eqb (get_or bytes e 0 / 4) (t % 2)) (taken.byte e (omega (arith, r.bytes_long))) where
    by : (c : Bool) → get_or bytes' e 0 ≡ cond c (get_or bytes e 0) (least (tag_of (suc t)) (places_of m halves) e (get_or bytes e 0)) → get_or bytes' e 0 ≤ get_or bytes e 0
    by true w = omega (arith, w)
    by false w = omega (arith, w, least-le (tag_of (suc t)) (places_of m halves) e (get_or bytes e 0))

  stays_taken : (e : ℕ) → e < length graph.edges → is_taken bytes e ≡ true → is_taken bytes' e ≡ true
  stays_taken e h was = by (cases_lt (get_or bytes e 0) 8) where
    by : (get_or bytes e 0 < 8) ⊎ (8 ≤ get_or bytes e 0) → is_taken bytes' e ≡ true
    by (inl low) = lt-ltb _ 8 (omega (arith, no_more e h))
    by (inr high) = absurd (both_ways _ (le-ltb _ 8 high) was)

  are_taken : (e : ℕ) → e < length graph.edges → (has next e ≡ true) ⊎ (has next e ≡ false) → (has taken.fresh e ≡ true) ⊎ (has taken.fresh e ≡ false) → (is_left graph.edges (suc t) e ≡ true) ⊎ (is_left graph.edges (suc t) e ≡ false) → is_taken bytes' e ≡ (has (next ++ taken.fresh) e || not (is_left graph.edges (suc t) e))
  are_taken e h (inl o) f g = stays_taken e h (r.taken e h ∙ or_left _ _ o) ∙ sym (or_left _ _ (has-append next taken.fresh e ∙ or_left _ _ o))
  are_taken e h (inr o) f (inr gone) = stays_taken e h (r.taken e h ∙ or_right (has next e) _ (not_from_false _ gone)) ∙ sym (or_right (has (next ++ taken.fresh) e) _ (not_from_false _ gone))
  are_taken e h (inr o) (inl f) g =
      let place : is_listed (places_of m halves) e ≡ true = (and_parts (is_listed (places_of m halves) e) _ (sym (taken.members e) ∙ f)).0 in
      let tag : tag_of (suc t) ≤ 4 = omega arith in
      lt-ltb _ 8 (omega (arith, least_at e (inr f), least-low (tag_of (suc t)) (places_of m halves) e (get_or bytes e 0) tag place))
      ∙ sym (or_left _ _ (has-append next taken.fresh e ∙ or_right (has next e) _ f))
  are_taken e h (inr o) (inr f) (inl here) =
      let old : is_taken bytes e ≡ false = r.taken e h ∙ (ap (λ b. b || not (is_left graph.edges (suc t) e)) o ∙ ap not here) in
      let none : is_listed (places_of m halves) e ≡ false = sym (and_true _) ∙ (ap (λ b. is_listed (places_of m halves) e && b) (sym (ap not old)) ∙ (sym (taken.members e) ∙ f)) in
      let same : get_or bytes' e 0 ≡ get_or bytes e 0 = taken.byte e (omega (arith, r.bytes_long)) ∙ by (eqb (get_or bytes e 0 / 4) (t % 2)) (least-unlisted (tag_of (suc t)) (places_of m halves) e (get_or bytes e 0) none) in
      ap (λ x. ltb x 8) same ∙ (old ∙ sym (ap (λ b. b || not (is_left graph.edges (suc t) e)) (has-append next taken.fresh e ∙ (ap (λ b. b || has taken.fresh e) o ∙ f)) ∙ ap not here)) where
        by : (c : Bool) → least (tag_of (suc t)) (places_of m halves) e (get_or bytes e 0) ≡ get_or bytes e 0 → cond c (get_or bytes e 0) (least (tag_of (suc t)) (places_of m halves) e (get_or bytes e 0)) ≡ get_or bytes e 0
        by true l = refl
        by false l = l

-- the edges of the places that are listed
pub places_inside : (k : ℕ) (graph : Graph) (t : ℕ) (gone : List ℕ) (l m : Links) (halves : List Half) (next bytes : List ℕ) → k ≤ 3 → AreEdges k graph.vertices graph.edges → InRound graph t gone l next bytes → All (IsHalf l) halves → ((q : ℕ) → has (map place_in halves) q ≡ true → IsOtherPlace graph.edges t q) → m ≡ removed_all l halves
    → All (λ q. q / 4 < length bytes) (places_of m halves)
places_inside k graph t gone l m halves next bytes small are r there others is = All-from_get_or (λ q. q / 4 < length bytes) (places_of m halves) 0 (λ i h.
    let x = (freed_is k graph t gone l m halves _ small are (are_removed k graph t gone l m next bytes halves small are r there others is) (has-from_Contains _ _ (Contains-get_or (places_of m halves) i 0 h))).0 in
    omega (arith, x.inside, r.bytes_long))

-- a list without the numbers that fail a test is no shorter than one without more of them
filter_le : (p q : ℕ → Bool) (xs : List ℕ) → ((e : ℕ) → p e ≡ true → q e ≡ true) → length (filter p xs) ≤ length (filter q xs)
filter_le p q [] h = omega arith
filter_le p q (x ∷ xs) h = go (p x) (q x) (h x) (filter_le p q xs h) where
  go : (a b : Bool) → (a ≡ true → b ≡ true) → length (filter p xs) ≤ length (filter q xs) → length (cond a (x ∷ filter p xs) (filter p xs)) ≤ length (cond b (x ∷ filter q xs) (filter q xs))
  go true true to le = omega arith
  go true false to le = absurd (false≢true (to refl))
  go false true to le = omega arith
  go false false to le = le

-- no more edges are freed than are left
pub next_few : (graph : Graph) (t : ℕ) (gone : List ℕ) (l : Links) (next bytes : List ℕ) → InRound graph t gone l next bytes → length next ≤ length (left_after graph.edges (suc t))
next_few graph t gone l next bytes r =
    let edges : List (List ℕ) = graph.edges in
    let moved = kept_moved (has next) next (length edges) r.apart (λ e. refl) r.inside in
    omega (arith, length_permutation _ _ moved, filter_le (has next) (is_left edges (suc t)) (places edges) (λ e m. (and_parts (is_left edges (suc t) e) _ (sym (r.members e (r.inside e m)) ∙ m)).0), ap length (left_after_is edges (suc t)))
