-- A part of the half-edges that wait is removed.
use Rattle.std.proofs.Common.{◌≡◌, ◌≢◌, ◌⊎◌, ℕ, zero, suc, ◌+◌, ◌-◌, ◌*◌, ◌/◌, ◌%◌, ◌<◌, ◌≤◌, Bool, true, false, eqb, List, [], ◌∷◌, ◌++◌, length, get_or, set, map, take, drop, Some, None, sym, refl, ap, ◌∙◌, subst, inl, inr, arith, append_assoc, length-drop, get_or-set_other}
use Rattle.std.specs.List.{All, AllPairs, slice_get}
use Rattle.std.proofs.Math.Seq.{take-add}
use Rattle.std.proofs.lemmas.Bool.{cases_Bool, cases_eq, cases_lt, eq-eqb, or_left, or_right, or_parts, false≢true}
use Rattle.std.proofs.lemmas.List.{get_or-take, get_or-drop, get_or-map, get_or-set_same, get_or_past, length-map, length-take-le, map-append, take-map, drop-map}
use Rattle.cm_spec.specs.Lists.{has}
use Rattle.cm_spec.specs.Graph.{AreEdges}
use Rattle.cm_graph_edges.specs.declared.incidence.Half.{Half}
use Rattle.cm_graph_edges.specs.Graph.{Graph, Links, IsHalf, AreHalves, slot_of, removed, removed_all}
use Rattle.cm_peel.specs.AtRound.{InRound, IsOtherPlace, is_half_kept}
use Rattle.cm_peel.specs.Incident.{AreLinked}
use Rattle.cm_peel.specs.SetLaws.{Contains-from_has}
use Rattle.cm_peel.specs.Waiting.{halves_in}
use Rattle.cm_peel.proofs.Halves.{half_known}
use Rattle.cm_peel.proofs.Incident.{place_in, slice_get-set_other}
use Rattle.cm_peel.proofs.NextRound.{round_inside}
use Rattle.cm_peel.proofs.Unlinking.{take_member, drop_member}
use Rattle.cm_peel.proofs.Pairs.{pairs-take, pairs-drop}
use Rattle.cm_peel.proofs.Pieces.{front_written}

pub removed_all-append : (xs ys : List Half) (l : Links) → removed_all l (xs ++ ys) ≡ removed_all (removed_all l xs) ys
removed_all-append [] ys l = refl
removed_all-append (x ∷ xs) ys l = removed_all-append xs ys (removed l x.place)

-- the part that is read from the pairs
pub part_is : (pairs : List ℕ) (at many : ℕ) (new old : List Half) → at ≡ 2 * (at / 2) → new ≡ halves_in (take (at + 2 * many - at) (drop at pairs)) → length new ≡ length (take many old) → many ≤ length old → take many (new ++ drop many old) ≡ take many (drop (at / 2) (halves_in pairs))
part_is pairs at many new old even is long few =
    let moved : at + 2 * many - at ≡ 2 * many = omega arith in
    front_written new old many (long ∙ length-take-le many old few) ∙ (is ∙ (ap (λ n. halves_in (take n (drop at pairs))) moved ∙ (pairs-take (drop at pairs) many
    ∙ ap (take many) (ap (λ n. halves_in (drop n pairs)) even ∙ pairs-drop pairs (at / 2)))))

-- a half-edge stays while others are removed
half_stays : (l : Links) (q : ℕ) (h : Half) → h.place ≢ q → IsHalf l h → IsHalf (removed l q) h
half_stays l q h other there = go (cases_eq (h.place / 4) (q / 4)) (cases_lt (h.place / 4) (length l.slots)) where
  e : ℕ
  e = h.place / 4

  go : (h.place / 4 ≡ q / 4) ⊎ (h.place / 4 ≡ q / 4 → ⊥) → (h.place / 4 < length l.slots) ⊎ (length l.slots ≤ h.place / 4) → slice_get (get_or (set l.slots (q / 4) (set (slot_of l (q / 4)) (q % 4) None)) (h.place / 4) []) (h.place % 4) ≡ Some (Some h.vertex)
  go (inr apart) w = ap (λ s. slice_get s (h.place % 4)) (get_or-set_other l.slots (q / 4) e _ [] apart) ∙ there
  go (inl same) (inl low) =
      let differ : h.place % 4 ≢ q % 4 = λ s. other (omega (arith, s, same)) in
      let slot = get_or-set_same l.slots e (set (slot_of l e) (q % 4) None) [] low in
      subst (λ i. slice_get (get_or (set l.slots i (set (slot_of l i) (q % 4) None)) e []) (h.place % 4) ≡ Some (Some h.vertex)) same (ap (λ s. slice_get s (h.place % 4)) slot ∙ (slice_get-set_other (slot_of l e) (q % 4) (h.place % 4) None differ ∙ there))
  go (inl same) (inr high) =
      let none = ap (λ s. slice_get s (h.place % 4)) (sym (get_or_past l.slots e [] high)) ∙ there in
      cc

pub still_halves : (l : Links) (xs ys : List Half) → All (IsHalf l) ys → ((k : ℕ) (d : Half) → k < length ys → has (map place_in xs) (get_or ys k d).place ≡ false) → All (IsHalf (removed_all l xs)) ys
still_halves l [] ys all apart = all
still_halves l (x ∷ xs) ys all apart = still_halves (removed l x.place) xs ys
    (λ k d h. half_stays l x.place (get_or ys k d) (λ s. false≢true (sym (or_parts (eqb x.place (get_or ys k d).place) _ (apart k d h)).0 ∙ eq-eqb x.place (get_or ys k d).place (sym s))) (all k d h))
    (λ k d h. (or_parts (eqb x.place (get_or ys k d).place) _ (apart k d h)).1)

-- a part of the half-edges
part_at : (hs : List Half) (i n k : ℕ) (d : Half) → k < n → get_or (take n (drop i hs)) k d ≡ get_or hs (i + k) d
part_at hs i n k d h = get_or-take n (drop i hs) k d h ∙ get_or-drop i hs k d

pub part_long : (hs : List Half) (i n : ℕ) → i + n ≤ length hs → length (take n (drop i hs)) ≡ n
part_long hs i n few = length-take-le n (drop i hs) (omega (arith, length-drop i hs))

part_apart : (hs : List Half) (i n : ℕ) → i + n ≤ length hs → AllPairs (λ a b. a.place ≢ b.place) hs → (k : ℕ) (d : Half) → k < length (take n (drop i hs)) → has (map place_in (take i hs)) (get_or (take n (drop i hs)) k d).place ≡ false
part_apart hs i n few apart k d h = go (cases_Bool (has (map place_in (take i hs)) (get_or (take n (drop i hs)) k d).place)) where
  go : (has (map place_in (take i hs)) (get_or (take n (drop i hs)) k d).place ≡ true) ⊎ (has (map place_in (take i hs)) (get_or (take n (drop i hs)) k d).place ≡ false) → has (map place_in (take i hs)) (get_or (take n (drop i hs)) k d).place ≡ false
  go (inr m) = m
  go (inl m) =
      let short : k < n = omega (arith, h, part_long hs i n few) in
      let q : ℕ = (get_or (take n (drop i hs)) k d).place in
      let c = Contains-from_has (map place_in (take i hs)) q m in
      let long : length (map place_in (take i hs)) ≡ i = length-map (take i hs) place_in ∙ length-take-le i hs (omega arith) in
      let low : c.0 < i = omega (arith, c.1, long) in
      let there : get_or (map place_in (take i hs)) c.0 q ≡ (get_or hs c.0 d).place = get_or-map place_in (take i hs) c.0 d q (omega (arith, low, length-take-le i hs)) ∙ ap place_in (get_or-take i hs c.0 d low) in
      absurd (apart c.0 (i + k) d (omega arith) (omega arith) (sym there ∙ (c.2 ∙ ap place_in (part_at hs i n k d short))))

pub part_halves : (l m : Links) (hs : List Half) (i n : ℕ) → i + n ≤ length hs → AreHalves l hs → m ≡ removed_all l (take i hs) → AreHalves m (take n (drop i hs))
part_halves l m hs i n few are is = (
  subst (λ (x : Links). All (IsHalf x) (take n (drop i hs))) (sym is) (still_halves l (take i hs) (take n (drop i hs)) (λ k d h.
      let short : k < n = omega (arith, h, part_long hs i n few) in
      subst (IsHalf l) (sym (part_at hs i n k d short)) (are.0 (i + k) d (omega arith))) (part_apart hs i n few are.1)),
  pairs,
) where
  pairs : AllPairs (λ a b. a.place ≢ b.place) (take n (drop i hs))
  pairs a b d less h s =
      let low : b < n = omega (arith, h, part_long hs i n few) in
      are.1 (i + a) (i + b) d (omega arith) (omega arith) (ap place_in (sym (part_at hs i n a d (omega arith))) ∙ (s ∙ ap place_in (part_at hs i n b d low)))

-- the vertex of a half-edge that is there
pub half_below : (k : ℕ) (graph : Graph) (p : ℕ → ℕ → Bool) (l : Links) (h : Half) → AreEdges k graph.vertices graph.edges → AreLinked graph p l → h.place / 4 < length graph.edges → IsHalf l h → h.vertex < l.vertices
half_below k graph p l h are a inside there =
    let known = half_known graph p l h a inside there in
    omega (arith, (are (h.place / 4) [] inside).1.0 (h.place % 4) 0 known.0, known.2, a.vertices)

-- one more part
pub parts_next : (hs : List Half) (gone : List ℕ) (i n : ℕ) → (gone ++ map place_in (take i hs)) ++ map place_in (take n (drop i hs)) ≡ gone ++ map place_in (take (i + n) hs)
parts_next hs gone i n = append_assoc gone (map place_in (take i hs)) (map place_in (take n (drop i hs))) ∙ ap (λ (qs : List ℕ). gone ++ qs) (sym (map-append place_in (take i hs) (take n (drop i hs))) ∙ ap (map place_in) (sym (take-add i n hs)))

-- what is known of a part
pub record IsPart (edges : List (List ℕ)) (t : ℕ) (l : Links) (part : List Half) : Type 0 where
  pub halves : AreHalves l part
  pub others : (q : ℕ) → has (map place_in part) q ≡ true → IsOtherPlace edges t q

pub is_part : (edges : List (List ℕ)) (t : ℕ) (l m : Links) (hs part : List Half) (i n : ℕ) → i + n ≤ length hs → AreHalves l hs → ((q : ℕ) → has (map place_in hs) q ≡ true → IsOtherPlace edges t q) → m ≡ removed_all l (take i hs) → part ≡ take n (drop i hs) → IsPart edges t m part
is_part edges t l m hs part i n few are others links is = rw is (record {
  halves = part_halves l m hs i n few are links;
  others = λ q h. others q (drop_member i (map place_in hs) q (take_member n (drop i (map place_in hs)) q (ap (λ (qs : List ℕ). has qs q) (ap (take n) (drop-map place_in i hs) ∙ take-map place_in n (drop i hs)) ∙ h)));
})

pub has_at : (hs : List Half) (k : ℕ) (d : Half) → k < length hs → has (map place_in hs) (get_or hs k d).place ≡ true
has_at [] k d h = absurd (omega arith)
has_at (x ∷ xs) zero d h = or_left _ _ (eq-eqb x.place x.place refl)
has_at (x ∷ xs) (suc k) d h = or_right (eqb x.place (get_or xs k d).place) _ (has_at xs k d (omega arith))

pub part_below : (k : ℕ) (graph : Graph) (t : ℕ) (gone : List ℕ) (l : Links) (next bytes : List ℕ) (part : List Half) → AreEdges k graph.vertices graph.edges → InRound graph t gone l next bytes → IsPart graph.edges t l part → All (λ h. h.vertex < l.vertices) part
part_below k graph t gone l next bytes part are r p i d h = half_below k graph (is_half_kept graph.edges t gone) l (get_or part i d) are r.linked (round_inside graph.edges t _ (p.others _ (has_at part i d h)).0).0 (p.halves.0 i d h)
