-- From one round to the next.
use Rattle.std.proofs.Common.{◌≡◌, ◌≢◌, ◌⊎◌, ℕ, suc, ◌+◌, ◌*◌, ◌/◌, ◌%◌, ◌<◌, ◌≤◌, Bool, true, false, cond, not, eqb, ◌&&◌, ◌||◌, List, [], length, get_or, take, drop, sym, refl, ap, ◌∙◌, subst, inl, inr, arith, length-drop, nat_cmp}
use Rattle.std.specs.List.{All, IsDistinct}
use Rattle.std.specs.List.Sorted.{IsStrictlyIncreasing, IsSorted, IsPermutation}
use Rattle.std.proofs.lemmas.Bool.{cases_Bool, and_parts, and_from, or_right, cases_eq, eq-eqb, ne_eqb, not_from_false}
use Rattle.std.proofs.lemmas.List.{get_or-take, get_or-drop, length-take-le}
use Rattle.std.proofs.lemmas.List.Elements.{All-from_get_or, Contains-get_or}
use Rattle.std.proofs.lemmas.List.Sorted.{list_any-IsPermutation}
use Rattle.std.proofs.lemmas.Map.Keys.{IsDistinct-IsPermutation}
use Rattle.cm_spec.specs.Lists.{has}
use Rattle.cm_spec.specs.Graph.{AreEdges, ends_at}
use Rattle.cm_spec.specs.Rounds.{is_left, is_held, left_after, removed_after, level_of, pivot_of}
use Rattle.cm_graph_edges.specs.Graph.{Graph, Links}
use Rattle.cm_peel.specs.Incident.{AreLinked, is_half_left, is_picked}
use Rattle.cm_peel.specs.AtRound.{AtRound, InRound, byte_of, is_half_kept, other_places}
use Rattle.cm_peel.specs.SetLaws.{increasing_from_Rises, Rises-from_increasing, has-from_Contains}
use Rattle.cm_peel.specs.RoundLaws.{has_left, has_place, has_left_from, is_left_from, has_removed, removed_rises, removed_is_left}
use Rattle.cm_peel.proofs.Begun.{round_begun}
use Rattle.cm_peel.proofs.Incident.{AreLinked-agree}
use Rattle.cm_peel.proofs.Halves.{others_place_found, others_place_there}
use Rattle.cm_peel.proofs.Pieces.{rises_sorted}
use Rattle.cm_peel.proofs.Sets.{same_from}
use Rattle.cm_peel.proofs.Taking.{are_distinct}
use Rattle.cm_peel.proofs.RoundFacts.{picked_is, rising_same}
use Rattle.cm_peel.proofs.Falls.{falls_early, removed_gone}
use Rattle.cm_peel.proofs.Advance.{byte_is, falls_removed, levels_next}

-- the edges of a round
pub round_rises : (edges : List (List ℕ)) (t : ℕ) → IsStrictlyIncreasing (removed_after edges t)
round_rises edges t = increasing_from_Rises 0 (removed_after edges t) (removed_rises edges t)

pub round_inside : (edges : List (List ℕ)) (t e : ℕ) → has (removed_after edges t) e ≡ true → (e < length edges) × (is_left edges t e ≡ true)
round_inside edges t e m = is_left_from edges t e (removed_is_left edges t e m)

pub round_places : (edges : List (List ℕ)) (t : ℕ) → All (λ e. e < length edges) (removed_after edges t)
round_places edges t = All-from_get_or (λ e. e < length edges) (removed_after edges t) 0 (λ k h. (round_inside edges t _ (has-from_Contains (removed_after edges t) _ (Contains-get_or (removed_after edges t) k 0 h))).0)

-- a piece of the round
pub piece_at : (round : List ℕ) (d n k : ℕ) → k < n → get_or (take n (drop d round)) k 0 ≡ get_or round (d + k) 0
piece_at round d n k h = get_or-take n (drop d round) k 0 h ∙ get_or-drop d round k 0

pub piece_rises : (round : List ℕ) (d n : ℕ) → IsStrictlyIncreasing round → d + n ≤ length round → IsStrictlyIncreasing (take n (drop d round))
piece_rises round d n up few k h =
    let long : length (take n (drop d round)) ≡ n = length-take-le n (drop d round) (omega (arith, length-drop d round)) in
    let s : d + (k + 1) ≡ (d + k) + 1 = omega arith in
    let next : get_or (take n (drop d round)) (k + 1) 0 ≡ get_or round ((d + k) + 1) 0 = piece_at round d n (k + 1) (omega arith) ∙ ap (λ i. get_or round i 0) s in
    let here : get_or (take n (drop d round)) k 0 ≡ get_or round (d + k) 0 = piece_at round d n k (omega arith) in
    let less : get_or round (d + k) 0 < get_or round ((d + k) + 1) 0 = up (d + k) (omega arith) in
    omega arith

-- after the last removal
pub all_unlinked : (k : ℕ) (graph : Graph) (t : ℕ) (l : Links) → k ≤ 3 → AreEdges k graph.vertices graph.edges → AreLinked graph (is_half_kept graph.edges t (other_places graph.edges (removed_after graph.edges t))) l → AreLinked graph (is_half_left graph.edges (suc t)) l
all_unlinked k graph t l small are a = AreLinked-agree graph (is_half_kept edges t (other_places edges (removed_after edges t))) (is_half_left edges (suc t)) l a (λ e j h low. go e j h low (cases_eq j (pivot_of edges e))) where
  edges : List (List ℕ)
  edges = graph.edges

  round : List ℕ
  round = removed_after graph.edges t

  few : (e : ℕ) → has round e ≡ true → length (ends_at graph.edges e) ≤ 4
  few e m = omega (arith, (are e [] (round_inside edges t e m).0).0)

  found : (e j : ℕ) → e < length graph.edges → j < length (ends_at graph.edges e) → has (other_places graph.edges round) (4 * e + j) ≡ true → (has round e ≡ true) × (j ≢ pivot_of graph.edges e)
  found e j h low m =
      let r = others_place_found edges (pivot_of edges) round (4 * e + j) few m in
      let edge : (4 * e + j) / 4 ≡ e = omega (arith, low, (are e [] h).0) in
      let position : (4 * e + j) % 4 ≡ j = omega (arith, low, (are e [] h).0) in
      (subst (λ x. has round x ≡ true) edge r.0, λ s. r.1 (position ∙ (s ∙ ap (pivot_of edges) (sym edge))))

  keeps : (a b : Bool) → ((a && b) || false) ≡ ((a || false) && not (a && not b))
  keeps true true = refl
  keeps true false = refl
  keeps false b = refl

  go : (e j : ℕ) → e < length graph.edges → j < length (ends_at graph.edges e) → (j ≡ pivot_of graph.edges e) ⊎ (j ≡ pivot_of graph.edges e → ⊥) → is_half_left graph.edges (suc t) e j ≡ is_half_kept graph.edges t (other_places graph.edges round) e j
  go e j h low (inl pivot) =
      let here : eqb j (pivot_of edges e) ≡ true = eq-eqb _ _ pivot in
      or_right (is_left edges (suc t) e) _ here ∙ sym (and_from _ _ (or_right (is_left edges t e) _ here) (not_from_false _ (by (cases_Bool (has (other_places edges round) (4 * e + j)))))) where
        by : (has (other_places graph.edges round) (4 * e + j) ≡ true) ⊎ (has (other_places graph.edges round) (4 * e + j) ≡ false) → has (other_places graph.edges round) (4 * e + j) ≡ false
        by (inr m) = m
        by (inl m) = absurd ((found e j h low m).1 pivot)
  go e j h low (inr other) =
      let left : has (left_after edges t) e ≡ is_left edges t e = has_left edges t e ∙ ap (λ b. b && is_left edges t e) (has_place edges e h) in
      let gone : has round e ≡ (is_left edges t e && not (is_held edges (left_after edges t) e)) = has_removed edges t e ∙ ap (λ b. b && not (is_held edges (left_after edges t) e)) left in
      let lost : has (other_places edges round) (4 * e + j) ≡ has round e = same_from (λ m. (found e j h low m).0) (λ m. others_place_there edges (pivot_of edges) round e j m low other) in
      ap (λ b. is_left edges (suc t) e || b) (ne_eqb _ _ other) ∙ (keeps (is_left edges t e) (is_held edges (left_after edges t) e)
      ∙ (ap (λ b. (is_left edges t e || false) && not b) (sym (lost ∙ gone)) ∙ ap (λ b. (is_left edges t e || b) && not (has (other_places edges round) (4 * e + j))) (sym (ne_eqb _ _ other))))

-- what was added is the next round
pub next_members : (graph : Graph) (t : ℕ) (l : Links) (next : List ℕ) → AreLinked graph (is_half_left graph.edges (suc t)) l → ((e : ℕ) → has next e ≡ true → e < length graph.edges) → ((e : ℕ) → e < length graph.edges → has next e ≡ (is_left graph.edges (suc t) e && is_picked l graph.edges e))
    → (e : ℕ) → (has next e ≡ true → has (removed_after graph.edges (suc t)) e ≡ true) × (has (removed_after graph.edges (suc t)) e ≡ true → has next e ≡ true)
next_members graph t l next a inside members e = (to, from) where
  to : has next e ≡ true → has (removed_after graph.edges (suc t)) e ≡ true
  to m =
      let h : e < length graph.edges = inside e m in
      let both = and_parts (is_left graph.edges (suc t) e) (is_picked l graph.edges e) (sym (members e h) ∙ m) in
      let here : has (left_after graph.edges (suc t)) e ≡ true = has_left_from graph.edges (suc t) e h both.0 in
      has_removed graph.edges (suc t) e ∙ and_from _ _ here (sym (picked_is graph (suc t) l e a here) ∙ both.1)

  from : has (removed_after graph.edges (suc t)) e ≡ true → has next e ≡ true
  from m =
      let both = and_parts (has (left_after graph.edges (suc t)) e) (not (is_held graph.edges (left_after graph.edges (suc t)) e)) (sym (has_removed graph.edges (suc t) e) ∙ m) in
      let here = is_left_from graph.edges (suc t) e both.0 in
      members e here.0 ∙ and_from _ _ here.1 (picked_is graph (suc t) l e a both.0 ∙ both.1)

pub eqb-flip : (x y : ℕ) → eqb x y ≡ eqb y x
eqb-flip x y = elim (cases_eq x y) [
  | inl same ↦ eq-eqb x y same ∙ sym (eq-eqb y x (sym same))
  | inr other ↦ ne_eqb x y other ∙ sym (ne_eqb y x (λ s. other (sym s)))
]

pub next_sorted : (k : ℕ) (graph : Graph) (t : ℕ) (l : Links) (next bytes xs : List ℕ) → InRound graph t (other_places graph.edges (removed_after graph.edges t)) l next bytes → k ≤ 3 → AreEdges k graph.vertices graph.edges → IsPermutation next xs → IsSorted nat_cmp xs → xs ≡ removed_after graph.edges (suc t)
next_sorted k graph t l next bytes xs r small are moved up =
    let a : AreLinked graph (is_half_left graph.edges (suc t)) l = all_unlinked k graph t l small are r.linked in
    let apart : IsDistinct eqb xs = IsDistinct-IsPermutation eqb eqb-flip next xs moved (are_distinct next r.apart) in
    let same : (e : ℕ) → has next e ≡ has xs e = (λ e. list_any-IsPermutation (λ x. eqb x e) next xs moved) in
    rising_same graph.edges xs (removed_after graph.edges (suc t)) (Rises-from_increasing 0 xs (rises_sorted xs up apart) (λ _. omega arith)) (removed_rises graph.edges (suc t))
    (λ e m. (round_inside graph.edges (suc t) e m).0)
    (λ e m. (next_members graph t l next a r.inside r.members e).0 (same e ∙ m))
    (λ e m. sym (same e) ∙ (next_members graph t l next a r.inside r.members e).1 m)

-- what a round removes is not left after it, and all else that was left before is
pub gone_next : (edges : List (List ℕ)) (t e : ℕ) → e < length edges → (has (removed_after edges t) e || not (is_left edges t e)) ≡ not (is_left edges (suc t) e)
gone_next edges t e h =
    let left : has (left_after edges t) e ≡ is_left edges t e = has_left edges t e ∙ ap (λ b. b && is_left edges t e) (has_place edges e h) in
    let gone : has (removed_after edges t) e ≡ (is_left edges t e && not (is_held edges (left_after edges t) e)) = has_removed edges t e ∙ ap (λ b. b && not (is_held edges (left_after edges t) e)) left in
    ap (λ b. b || not (is_left edges t e)) gone ∙ go (is_left edges t e) (is_held edges (left_after edges t) e) where
      go : (a b : Bool) → ((a && not b) || not a) ≡ not (a && b)
      go true true = refl
      go true false = refl
      go false b = refl

-- the state after one more round
pub next_round : (k : ℕ) (graph : Graph) (t : ℕ) (l m : Links) (levels bytes next bytes₁ round levels₂ : List ℕ) → k ≤ 3 → AreEdges k graph.vertices graph.edges → AtRound graph t l levels bytes → InRound graph t (other_places graph.edges (removed_after graph.edges t)) m next bytes₁ → round ≡ removed_after graph.edges (suc t)
    → length levels₂ ≡ length levels → ((e : ℕ) → e < length levels → get_or levels₂ e 0 ≡ cond (has round e) (suc (suc t)) (get_or levels e 0)) → AtRound graph (suc t) m levels₂ bytes₁
next_round k graph t l m levels bytes next bytes₁ round levels₂ small are a r is llong lset = record {
  round = round_begun graph (suc t) m bytes₁ linked r.bytes_long (λ e h gone. byte e h gone (cases_Bool (is_left edges (suc t) e))) (λ e h. r.taken e h ∙ (ap (λ b. b || not (is_left edges (suc t) e)) (members e) ∙ gone_next edges (suc t) e h));
  levels_kept = λ n. llong ∙ a.levels_kept (omega arith);
  level = λ e h. level e (omega arith);
} where
  edges : List (List ℕ)
  edges = graph.edges

  linked : AreLinked graph (is_half_left graph.edges (suc t)) m
  linked = all_unlinked k graph t m small are r.linked

  level : (e : ℕ) → e < length levels → get_or levels₂ e 0 ≡ cond (is_left graph.edges (suc (suc t)) e) 0 (level_of graph.edges e)
  level e h =
      let place : e < length edges = omega (arith, a.levels_kept (omega arith)) in
      lset e h ∙ (ap (λ x. cond (has round e) (suc (suc t)) x) (a.level e h) ∙ (ap (λ (ys : List ℕ). cond (has ys e) (suc (suc t)) (cond (is_left edges (suc t) e) 0 (level_of edges e))) is ∙ levels_next edges (suc t) e place))

  members : (e : ℕ) → has next e ≡ has (removed_after graph.edges (suc t)) e
  members e = let both = next_members graph t m next linked r.inside r.members e in same_from both.0 both.1

  byte : (e : ℕ) → e < length graph.edges → is_left graph.edges (suc (suc t)) e ≡ false → (is_left graph.edges (suc t) e ≡ true) ⊎ (is_left graph.edges (suc t) e ≡ false) → get_or bytes₁ e 0 ≡ byte_of graph.edges e
  byte e h gone (inr before) = r.byte e h before
  byte e h gone (inl here) = r.next_byte e (members e ∙ falls_removed graph.edges (suc t) e h here gone) ∙ byte_is graph (suc t) m e linked h here gone

pub next_places : (graph : Graph) (t : ℕ) (gone : List ℕ) (l : Links) (next bytes : List ℕ) → InRound graph t gone l next bytes → All (λ e. e < length graph.edges) next
next_places graph t gone l next bytes r = All-from_get_or (λ e. e < length graph.edges) next 0 (λ i h. r.inside _ (has-from_Contains next _ (Contains-get_or next i 0 h)))

-- a round that removes an edge is one of fewer than there are edges
pub round_early : (edges : List (List ℕ)) (t : ℕ) → 0 < length (removed_after edges t) → t < length edges
round_early edges t some =
    let round : List ℕ = removed_after edges t in
    let e : ℕ = get_or round 0 0 in
    let m : has round e ≡ true = has-from_Contains round e (Contains-get_or round 0 0 some) in
    let in₁ = round_inside edges t e m in
    falls_early edges t e in₁.0 in₁.1 (removed_gone edges t e m)
