-- Half-edges that wait for their blocks.
use Rattle.std.proofs.Common.{◌≡◌, ◌≢◌, ◌⊎◌, ℕ, zero, suc, ◌+◌, ◌-◌, ◌*◌, ◌/◌, ◌%◌, ◌<◌, ◌≤◌, true, false, ◌||◌, List, [], ◌∷◌, ◌++◌, length, get_or, set, map, take, drop, Some, sym, refl, ap, ◌∙◌, subst, inl, inr, arith, length-drop, get_or-set_other, append_assoc}
use Rattle.std.specs.List.{All, AllPairs, slice_get}
use Rattle.std.proofs.Math.ListN.{length-set}
use Rattle.std.proofs.lemmas.Bool.{both_ways, cases_Bool, cases_eq, cases_lt, and_from, or_left, or_right, or_cases, or_parts, not_from_false, false≢true}
use Rattle.std.proofs.lemmas.List.{get_or-set_same, get_or-map, get_or-take, length-map, map-append, length-take-le, take_more}
use Rattle.std.proofs.lemmas.List.Elements.{All-append}
use Rattle.cm_spec.specs.Lists.{has}
use Rattle.cm_spec.specs.Graph.{AreEdges, ends_at}
use Rattle.cm_graph_edges.specs.declared.incidence.Half.{Half}
use Rattle.cm_graph_edges.specs.Graph.{Graph, Links, IsHalf}
use Rattle.cm_peel.specs.AtRound.{InRound, IsOtherPlace, is_half_kept}
use Rattle.cm_peel.specs.Waiting.{InBlocks, InTaking, IsEnd, IsOpen, IsRoom, Waits, edge_blocks, halves_in, put_room, vertex_blocks, waiting_in}
use Rattle.cm_peel.specs.SetLaws.{Contains-from_has, AreApart}
use Rattle.cm_peel.proofs.Halves.{All-one, found_in}
use Rattle.cm_peel.proofs.Incident.{place_in, slot_is, where_get}
use Rattle.cm_peel.proofs.NextRound.{round_inside}
use Rattle.cm_peel.proofs.Parts.{IsPart, has_at}
use Rattle.cm_peel.proofs.Taking.{has-append, AreApart-push}

-- a half-edge of the round that isn't removed yet is there
pub half_there : (graph : Graph) (t : ℕ) (gone : List ℕ) (l : Links) (next bytes : List ℕ) (h : Half) → InRound graph t gone l next bytes → IsEnd graph.edges h → IsOtherPlace graph.edges t h.place → has gone h.place ≡ false → IsHalf l h
half_there graph t gone l next bytes h r end other there =
    let e : ℕ = h.place / 4 in
    let j : ℕ = h.place % 4 in
    let whole : 4 * e + j ≡ h.place = omega arith in
    let z : 0 + j ≡ j = omega arith in
    let left = (round_inside graph.edges t e other.0).1 in
    let kept : is_half_kept graph.edges t gone e j ≡ true = and_from _ _ (or_left _ _ left) (not_from_false _ (ap (has gone) whole ∙ there)) in
    ap (λ s. slice_get s j) (slot_is graph (is_half_kept graph.edges t gone) l e r.linked end.0) ∙ (where_get (is_half_kept graph.edges t gone e) 0 (ends_at graph.edges e) j end.1 (ap (is_half_kept graph.edges t gone e) z ∙ kept) ∙ ap (λ v. Some (Some v)) end.2)

-- two that have one place have one vertex
pub same_end : (edges : List (List ℕ)) (x y : Half) → IsEnd edges x → IsEnd edges y → x.place ≡ y.place → x.vertex ≡ y.vertex
same_end edges x y a b same = sym a.2 ∙ (ap (λ q. get_or (ends_at edges (q / 4)) (q % 4) 0) same ∙ b.2)

-- numbers of one block, and a write to another
pub piece_set : (xs : List ℕ) (at y s n : ℕ) → (at < s) ⊎ (s + n ≤ at) → take n (drop s (set xs at y)) ≡ take n (drop s xs)
piece_set [] at y zero n o = refl
piece_set [] at y (suc s) n o = refl
piece_set (x ∷ xs) zero y zero zero o = refl
piece_set (x ∷ xs) zero y zero (suc n) (inl low) = absurd (omega arith)
piece_set (x ∷ xs) zero y zero (suc n) (inr high) = absurd (omega arith)
piece_set (x ∷ xs) zero y (suc s) n o = refl
piece_set (x ∷ xs) (suc at) y zero zero o = refl
piece_set (x ∷ xs) (suc at) y zero (suc n) (inl low) = absurd (omega arith)
piece_set (x ∷ xs) (suc at) y zero (suc n) (inr high) = ap (λ (ys : List ℕ). x ∷ ys) (piece_set xs at y zero n (inr (omega arith)))
piece_set (x ∷ xs) (suc at) y (suc s) n (inl low) = piece_set xs at y s n (inl (omega arith))
piece_set (x ∷ xs) (suc at) y (suc s) n (inr high) = piece_set xs at y s n (inr (omega arith))

-- the end of a block, and two writes to it
pub piece_push : (xs : List ℕ) (s n v q : ℕ) → s + n + 1 < length xs → take (n + 2) (drop s (set (set xs (s + n) v) (s + n + 1) q)) ≡ take n (drop s xs) ++ v ∷ q ∷ []
piece_push [] s n v q h = absurd (omega arith)
piece_push (x ∷ []) s n v q h = absurd (omega arith)
piece_push (x ∷ y ∷ xs) zero zero v q h = refl
piece_push (x ∷ y ∷ xs) zero (suc n) v q h =
    let a : 0 + suc n ≡ suc (0 + n) = omega arith in
    let b : 0 + suc n + 1 ≡ suc (0 + n + 1) = omega arith in
    let c : suc n + 2 ≡ suc (n + 2) = omega arith in
    rw (b, a, c) (ap (λ (ys : List ℕ). x ∷ ys) (piece_push (y ∷ xs) zero n v q (omega arith)))
piece_push (x ∷ y ∷ xs) (suc s) n v q h =
    let a : suc s + n ≡ suc (s + n) = omega arith in
    let b : suc s + n + 1 ≡ suc (s + n + 1) = omega arith in
    rw (b, a) (piece_push (y ∷ xs) s n v q (omega arith))

-- half-edges and one more
pub pairs-push : (pairs : List ℕ) (n v q : ℕ) → length pairs ≡ 2 * n → halves_in (pairs ++ v ∷ q ∷ []) ≡ halves_in pairs ++ (record { vertex = v; place = q }) ∷ []
pairs-push [] n v q long = refl
pairs-push (x ∷ []) n v q long = absurd (omega (arith, long))
pairs-push (x ∷ y ∷ rest) zero v q long = absurd (omega (arith, long))
pairs-push (x ∷ y ∷ rest) (suc n) v q long = ap (λ (hs : List Half). record { vertex = x; place = y } ∷ hs) (pairs-push rest n v q (omega (arith, long)))

-- the lists of all blocks after one more half-edge is written
pub step_over : (a b s : ℕ) → a < b → a * s + s ≤ b * s
step_over a b s h =
    let d : ℕ = b - a - 1 in
    let e : b ≡ a + 1 + d = omega arith in
    let p : b * s ≡ (a + 1 + d) * s = ap (λ x. x * s) e in
    omega (arith, p)

pub put_here : (size : ℕ) (room counts : List ℕ) (b c : ℕ) (h : Half) → b < length counts → c ≡ get_or counts b 0 → 2 * c + 2 ≤ size → b * size + size ≤ length room → waiting_in size (put_room size room b c h) (set counts b (c + 1)) b ≡ waiting_in size room counts b ++ h ∷ []
put_here size room counts b c h low is fits within =
    let next : get_or (set counts b (c + 1)) b 0 ≡ c + 1 = get_or-set_same counts b (c + 1) 0 low in
    let two : 2 * (c + 1) ≡ 2 * c + 2 = omega arith in
    let long : length (take (2 * c) (drop (b * size) room)) ≡ 2 * c = length-take-le (2 * c) (drop (b * size) room) (omega (arith, length-drop (b * size) room)) in
    ap (λ k. halves_in (take (2 * k) (drop (b * size) (put_room size room b c h)))) next ∙ (ap (λ k. halves_in (take k (drop (b * size) (put_room size room b c h)))) two
    ∙ (ap halves_in (piece_push room (b * size) (2 * c) h.vertex h.place (omega arith)) ∙ (pairs-push (take (2 * c) (drop (b * size) room)) c h.vertex h.place long
    ∙ ap (λ k. halves_in (take (2 * k) (drop (b * size) room)) ++ h ∷ []) is)))

pub put_there : (size : ℕ) (room counts : List ℕ) (b c : ℕ) (h : Half) (k : ℕ) → k ≢ b → 2 * c + 2 ≤ size → 2 * get_or counts k 0 ≤ size → waiting_in size (put_room size room b c h) (set counts b (c + 1)) k ≡ waiting_in size room counts k
put_there size room counts b c h k other fits few =
    let same : get_or (set counts b (c + 1)) k 0 ≡ get_or counts k 0 = get_or-set_other counts b k (c + 1) 0 other in
    let n : ℕ = 2 * get_or counts k 0 in
    ap (λ j. halves_in (take (2 * j) (drop (k * size) (put_room size room b c h)))) same
    ∙ ap halves_in (piece_set (set room (b * size + 2 * c) h.vertex) (b * size + 2 * c + 1) h.place (k * size) n (apart (b * size + 2 * c + 1) (omega arith) (omega arith)) ∙ piece_set room (b * size + 2 * c) h.vertex (k * size) n (apart (b * size + 2 * c) (omega arith) (omega arith))) where
      apart : (at : ℕ) → b * size ≤ at → at < b * size + size → (at < k * size) ⊎ (k * size + 2 * get_or counts k 0 ≤ at)
      apart at from to = elim (cases_lt b k) [
        | inl low ↦ inl (omega (arith, step_over b k size low))
        | inr high ↦ inr (omega (arith, step_over k b size (omega (arith, other)), few))
      ]

-- places that are apart
pub pairs_from_apart : (hs : List Half) → AreApart (map place_in hs) → AllPairs (λ x y. x.place ≢ y.place) hs
pairs_from_apart [] a i j d less h = absurd (omega arith)
pairs_from_apart (x ∷ xs) a i zero d less h = absurd (omega arith)
pairs_from_apart (x ∷ xs) a zero (suc j) d less h = λ s. both_ways _ a.0 (ap (has (map place_in xs)) s ∙ has_at xs j d (omega arith))
pairs_from_apart (x ∷ xs) a (suc i) (suc j) d less h = pairs_from_apart xs a.1 i j d (omega arith) (omega arith)

not_gone : (gone done : List ℕ) (q : ℕ) → ((p : ℕ) → has gone p ≡ true → has done p ≡ true) → has done q ≡ false → has gone q ≡ false
not_gone gone done q inside none = elim (cases_Bool (has gone q)) [
  | inl m ↦ absurd (both_ways _ none (inside q m))
  | inr m ↦ m
]

-- the state after one more half-edge waits
pub blocks_put : (graph : Graph) (t size blocks each : ℕ) (room counts : List ℕ) (l : Links) (marks bytes freed done : List ℕ) (b c : ℕ) (h : Half) → InBlocks graph (vertex_blocks size room counts) l (edge_blocks t blocks each marks bytes freed) done → IsEnd graph.edges h → IsOtherPlace graph.edges t h.place → has done h.place ≡ false → h.vertex / 65536 ≡ b → b < length counts → c ≡ get_or counts b 0 → 2 * c + 2 ≤ size → b * size + size ≤ length room
    → InBlocks graph (vertex_blocks size (put_room size room b c h) (set counts b (c + 1))) l (edge_blocks t blocks each marks bytes freed) (done ++ h.place ∷ [])
blocks_put graph t size blocks each room counts l marks bytes freed done b c h r end other fresh block low is fits within = record {
  gone = r.gone;
  round = r.round;
  fits = λ k m. fits_at k (omega (arith, m, length-set counts b (c + 1))) (cases_eq k b);
  waits = λ k m. waits k (omega (arith, m, length-set counts b (c + 1))) (cases_eq k b);
  apart = λ k m. apart k (omega (arith, m, length-set counts b (c + 1))) (cases_eq k b);
  waits_done = λ k q m n. waits_done k q (omega (arith, m, length-set counts b (c + 1))) n (cases_eq k b);
  gone_done = λ q m. has-append done (h.place ∷ []) q ∙ or_left _ _ (r.gone_done q m);
  all = λ q m n. all q n (or_cases (has done q) (has (h.place ∷ []) q) (sym (has-append done (h.place ∷ []) q) ∙ m));
} where
  here : waiting_in size (put_room size room b c h) (set counts b (c + 1)) b ≡ waiting_in size room counts b ++ h ∷ []
  here = put_here size room counts b c h low is fits within

  there : (k : ℕ) → k < length counts → k ≢ b → waiting_in size (put_room size room b c h) (set counts b (c + 1)) k ≡ waiting_in size room counts k
  there k m differ = put_there size room counts b c h k differ fits (r.fits k m)

  places_here : map place_in (waiting_in size (put_room size room b c h) (set counts b (c + 1)) b) ≡ map place_in (waiting_in size room counts b) ++ h.place ∷ []
  places_here = ap (map place_in) here ∙ map-append place_in (waiting_in size room counts b) (h ∷ [])

  fits_at : (k : ℕ) → k < length counts → (k ≡ b) ⊎ (k ≡ b → ⊥) → 2 * get_or (set counts b (c + 1)) k 0 ≤ size
  fits_at k m (inl same) = omega (arith, fits, ap (λ j. get_or (set counts b (c + 1)) j 0) same, get_or-set_same counts b (c + 1) 0 low)
  fits_at k m (inr differ) = omega (arith, r.fits k m, get_or-set_other counts b k (c + 1) 0 differ)

  one : Waits graph.edges t b r.gone h
  one = record { end = end; block = block; other = other; there = not_gone r.gone done h.place r.gone_done fresh }

  waits : (k : ℕ) → k < length counts → (k ≡ b) ⊎ (k ≡ b → ⊥) → All (Waits graph.edges t k r.gone) (waiting_in size (put_room size room b c h) (set counts b (c + 1)) k)
  waits k m (inl same) = rw (same, here) (All-append (Waits graph.edges t b r.gone) (waiting_in size room counts b) (h ∷ []) (r.waits b low) (All-one (Waits graph.edges t b r.gone) h one))
  waits k m (inr differ) = subst (All (Waits graph.edges t k r.gone)) (sym (there k m differ)) (r.waits k m)

  apart : (k : ℕ) → k < length counts → (k ≡ b) ⊎ (k ≡ b → ⊥) → AreApart (map place_in (waiting_in size (put_room size room b c h) (set counts b (c + 1)) k))
  apart k m (inl same) = rw same (subst AreApart (sym places_here) (AreApart-push (map place_in (waiting_in size room counts b)) h.place (r.apart b low) (not_gone (map place_in (waiting_in size room counts b)) done h.place (λ p n. r.waits_done b p low n) fresh)))
  apart k m (inr differ) = subst (λ (hs : List Half). AreApart (map place_in hs)) (sym (there k m differ)) (r.apart k m)

  waits_done : (k q : ℕ) → k < length counts → has (map place_in (waiting_in size (put_room size room b c h) (set counts b (c + 1)) k)) q ≡ true → (k ≡ b) ⊎ (k ≡ b → ⊥) → has (done ++ h.place ∷ []) q ≡ true
  waits_done k q m n (inl same) = has-append done (h.place ∷ []) q ∙ by (or_cases (has (map place_in (waiting_in size room counts b)) q) (has (h.place ∷ []) q) (sym (has-append (map place_in (waiting_in size room counts b)) (h.place ∷ []) q)
      ∙ (ap (λ (qs : List ℕ). has qs q) (sym places_here) ∙ (ap (λ j. has (map place_in (waiting_in size (put_room size room b c h) (set counts b (c + 1)) j)) q) (sym same) ∙ n)))) where
        by : (has (map place_in (waiting_in size room counts b)) q ≡ true) ⊎ (has (h.place ∷ []) q ≡ true) → (has done q || has (h.place ∷ []) q) ≡ true
        by (inl old) = or_left _ _ (r.waits_done b q low old)
        by (inr new) = or_right (has done q) _ new
  waits_done k q m n (inr differ) = has-append done (h.place ∷ []) q ∙ or_left _ _ (r.waits_done k q m (ap (λ (hs : List Half). has (map place_in hs) q) (sym (there k m differ)) ∙ n))

  long : length (set counts b (c + 1)) ≡ length counts
  long = length-set counts b (c + 1)

  Found : ℕ → Type 0
  Found q = (k : ℕ) × (k < length (set counts b (c + 1))) × (has (map place_in (waiting_in size (put_room size room b c h) (set counts b (c + 1)) k)) q ≡ true)

  in_here : (q : ℕ) → (has (map place_in (waiting_in size room counts b)) q || has (h.place ∷ []) q) ≡ true → Found q
  in_here q n = (b, omega (arith, long, low), ap (λ (qs : List ℕ). has qs q) places_here ∙ (has-append (map place_in (waiting_in size room counts b)) (h.place ∷ []) q ∙ n))

  all : (q : ℕ) → has r.gone q ≡ false → (has done q ≡ true) ⊎ (has (h.place ∷ []) q ≡ true) → Found q
  all q n (inr new) = in_here q (or_right (has (map place_in (waiting_in size room counts b)) q) _ new)
  all q n (inl old) = by (r.all q old n) where
    by : (k : ℕ) × (k < length counts) × (has (map place_in (waiting_in size room counts k)) q ≡ true) → Found q
    by w = elim (cases_eq w.0 b) [
      | inl same ↦ in_here q (or_left _ _ (ap (λ j. has (map place_in (waiting_in size room counts j)) q) (sym same) ∙ w.2))
      | inr differ ↦ (w.0, omega (arith, long, w.1), ap (λ (hs : List Half). has (map place_in hs) q) (there w.0 w.1 differ) ∙ w.2)
    ]

-- what waits for a block is there, and is removed at once
pub block_halves : (graph : Graph) (t size blocks each : ℕ) (room counts : List ℕ) (l : Links) (marks bytes freed done : List ℕ) (b : ℕ) → (r : InBlocks graph (vertex_blocks size room counts) l (edge_blocks t blocks each marks bytes freed) done) → b < length counts → IsPart graph.edges t l (waiting_in size room counts b)
block_halves graph t size blocks each room counts l marks bytes freed done b r low = record {
  halves = (λ k d h. let w = r.waits b low k d h in half_there graph t r.gone l _ _ _ r.round.round w.end w.other w.there, pairs_from_apart _ (r.apart b low));
  others = λ q m.
      let f = found_in (Waits graph.edges t b r.gone) place_in (waiting_in size room counts b) q (r.waits b low) m in
      subst (IsOtherPlace graph.edges t) f.1 f.2.other;
}

-- the state after a block is emptied
pub blocks_emptied : (graph : Graph) (t size blocks each : ℕ) (room counts : List ℕ) (l m : Links) (marks bytes freed marks' bytes' freed' done : List ℕ) (b : ℕ) → (r : InBlocks graph (vertex_blocks size room counts) l (edge_blocks t blocks each marks bytes freed) done) → b < length counts
    → ((gone : List ℕ) → InTaking graph gone l (edge_blocks t blocks each marks bytes freed) → InTaking graph (gone ++ map place_in (waiting_in size room counts b)) m (edge_blocks t blocks each marks' bytes' freed')) → InBlocks graph (vertex_blocks size room (set counts b 0)) m (edge_blocks t blocks each marks' bytes' freed') done
blocks_emptied graph t size blocks each room counts l m marks bytes freed marks' bytes' freed' done b r low moved = record {
  gone = r.gone ++ map place_in here;
  round = moved r.gone r.round;
  fits = λ k h. fits_at k (omega (arith, h, long)) (cases_eq k b);
  waits = λ k h. waits k (omega (arith, h, long)) (cases_eq k b);
  apart = λ k h. apart k (omega (arith, h, long)) (cases_eq k b);
  waits_done = λ k q h n. waits_done k q (omega (arith, h, long)) n (cases_eq k b);
  gone_done = λ q n. gone_done q (or_cases (has r.gone q) (has (map place_in here) q) (sym (has-append r.gone (map place_in here) q) ∙ n));
  all = λ q n none. all q n (or_parts (has r.gone q) (has (map place_in here) q) (sym (has-append r.gone (map place_in here) q) ∙ none));
} where
  here : List Half
  here = waiting_in size room counts b

  long : length (set counts b 0) ≡ length counts
  long = length-set counts b 0

  none_here : waiting_in size room (set counts b 0) b ≡ []
  none_here = ap (λ k. halves_in (take (2 * k) (drop (b * size) room))) (get_or-set_same counts b 0 0 low)

  there : (k : ℕ) → k ≢ b → waiting_in size room (set counts b 0) k ≡ waiting_in size room counts k
  there k differ = ap (λ j. halves_in (take (2 * j) (drop (k * size) room))) (get_or-set_other counts b k 0 0 differ)

  fits_at : (k : ℕ) → k < length counts → (k ≡ b) ⊎ (k ≡ b → ⊥) → 2 * get_or (set counts b 0) k 0 ≤ size
  fits_at k h (inl same) = omega (arith, ap (λ j. get_or (set counts b 0) j 0) same, get_or-set_same counts b 0 0 low)
  fits_at k h (inr differ) = omega (arith, r.fits k h, get_or-set_other counts b k 0 0 differ)

  -- what waits for another block lies in another vertex
  elsewhere : (k : ℕ) → k ≢ b → (x : Half) → Waits graph.edges t k r.gone x → has (map place_in here) x.place ≡ false
  elsewhere k differ x w = elim (cases_Bool (has (map place_in here) x.place)) [
    | inr n ↦ n
    | inl n ↦
        let f = found_in (Waits graph.edges t b r.gone) place_in here x.place (r.waits b low) n in
        absurd (differ (sym w.block ∙ (ap (λ v. v / 65536) (sym (same_end graph.edges f.0 x f.2.end w.end f.1)) ∙ f.2.block)))
  ]

  waits : (k : ℕ) → k < length counts → (k ≡ b) ⊎ (k ≡ b → ⊥) → All (Waits graph.edges t k (r.gone ++ map place_in here)) (waiting_in size room (set counts b 0) k)
  waits k h (inl same) = rw (same, none_here) (λ i d n. absurd (omega arith))
  waits k h (inr differ) = rw (there k differ) (λ i d n.
      let w = r.waits k h i d n in
      record { end = w.end; block = w.block; other = w.other; there = has-append r.gone (map place_in here) _ ∙ (ap (λ c. c || has (map place_in here) (get_or (waiting_in size room counts k) i d).place) w.there ∙ elsewhere k differ _ w) })

  apart : (k : ℕ) → k < length counts → (k ≡ b) ⊎ (k ≡ b → ⊥) → AreApart (map place_in (waiting_in size room (set counts b 0) k))
  apart k h (inl same) = rw (same, none_here) tt
  apart k h (inr differ) = rw (there k differ) (r.apart k h)

  waits_done : (k q : ℕ) → k < length counts → has (map place_in (waiting_in size room (set counts b 0) k)) q ≡ true → (k ≡ b) ⊎ (k ≡ b → ⊥) → has done q ≡ true
  waits_done k q h n (inl same) = absurd (false≢true (ap (λ (hs : List Half). has (map place_in hs) q) (sym (ap (waiting_in size room (set counts b 0)) same ∙ none_here)) ∙ n))
  waits_done k q h n (inr differ) = r.waits_done k q h (ap (λ (hs : List Half). has (map place_in hs) q) (sym (there k differ)) ∙ n)

  gone_done : (q : ℕ) → (has r.gone q ≡ true) ⊎ (has (map place_in here) q ≡ true) → has done q ≡ true
  gone_done q (inl n) = r.gone_done q n
  gone_done q (inr n) = r.waits_done b q low n

  all : (q : ℕ) → has done q ≡ true → (has r.gone q ≡ false) × (has (map place_in here) q ≡ false) → (k : ℕ) × (k < length (set counts b 0)) × (has (map place_in (waiting_in size room (set counts b 0) k)) q ≡ true)
  all q n none = by (r.all q n none.0) where
    by : (k : ℕ) × (k < length counts) × (has (map place_in (waiting_in size room counts k)) q ≡ true) → (k : ℕ) × (k < length (set counts b 0)) × (has (map place_in (waiting_in size room (set counts b 0) k)) q ≡ true)
    by w = elim (cases_eq w.0 b) [
      | inl same ↦ absurd (both_ways _ none.1 (ap (λ j. has (map place_in (waiting_in size room counts j)) q) (sym same) ∙ w.2))
      | inr differ ↦ (w.0, omega (arith, long, w.1), ap (λ (hs : List Half). has (map place_in hs) q) (there w.0 differ) ∙ w.2)
    ]

-- the room after a step
pub room_kept : (graph : Graph) (size : ℕ) (room counts marks room' counts' marks' : List ℕ) → IsRoom graph size room counts marks → length room' ≡ length room → length counts' ≡ length counts → length marks' ≡ length marks → IsRoom graph size room' counts' marks'
room_kept graph size room counts marks room' counts' marks' r a b c = record {
  even = r.even;
  within = omega (arith, r.within, a, ap (λ n. n * size) b);
  few = omega (arith, r.few, a);
  blocks = omega (arith, r.blocks, b);
  all_marks = omega (arith, r.all_marks, c);
}

-- the state after the next half-edge of a list waits
pub wait_one : (k : ℕ) (graph : Graph) (t size blocks each : ℕ) (room counts : List ℕ) (l : Links) (marks bytes freed done : List ℕ) (halves : List Half) (i : ℕ) (h : Half) → AreEdges k graph.vertices graph.edges → IsRoom graph size room counts marks → IsOpen size counts → All (IsEnd graph.edges) halves
    → ((q : ℕ) → has (map place_in halves) q ≡ true → IsOtherPlace graph.edges t q) → AreApart (map place_in halves) → ((q : ℕ) → has (map place_in halves) q ≡ true → has done q ≡ false) → i < length halves → get_or halves i h ≡ h → InBlocks graph (vertex_blocks size room counts) l (edge_blocks t blocks each marks bytes freed) (done ++ map place_in (take i halves))
    → InBlocks graph (vertex_blocks size (put_room size room (h.vertex / 65536) (get_or counts (h.vertex / 65536) 0) h) (set counts (h.vertex / 65536) (get_or counts (h.vertex / 65536) 0 + 1))) l (edge_blocks t blocks each marks bytes freed) (done ++ map place_in (take (i + 1) halves))
wait_one k graph t size blocks each room counts l marks bytes freed done halves i h are fits free ends others apart fresh low is r =
    subst (InBlocks graph (vertex_blocks size (put_room size room b c h) (set counts b (c + 1))) l (edge_blocks t blocks each marks bytes freed)) more (blocks_put graph t size blocks each room counts l marks bytes freed (done ++ map place_in (take i halves)) b c h r end (others h.place member) new refl below refl (omega (arith, free b below, fits.even)) (omega (arith, step_over b (length counts) size below, fits.within))) where
      b : ℕ
      b = h.vertex / 65536

      c : ℕ
      c = get_or counts (h.vertex / 65536) 0

      end : IsEnd graph.edges h
      end = subst (IsEnd graph.edges) is (ends i h low)

      below : h.vertex / 65536 < length counts
      below = omega (arith, (are (h.place / 4) [] end.0).1.0 (h.place % 4) 0 end.1, end.2, fits.blocks)

      member : has (map place_in halves) h.place ≡ true
      member = ap (λ (x : Half). has (map place_in halves) x.place) (sym is) ∙ has_at halves i h low

      new : has (done ++ map place_in (take i halves)) h.place ≡ false
      new = has-append done (map place_in (take i halves)) h.place ∙ (ap (λ c. c || has (map place_in (take i halves)) h.place) (fresh h.place member) ∙ before) where
        before : has (map place_in (take i halves)) h.place ≡ false
        before = elim (cases_Bool (has (map place_in (take i halves)) h.place)) [
          | inr n ↦ n
          | inl n ↦
              let p = Contains-from_has (map place_in (take i halves)) h.place n in
              let long : length (map place_in (take i halves)) ≡ i = length-map (take i halves) place_in ∙ length-take-le i halves (omega arith) in
              let short : p.0 < i = omega (arith, p.1, long) in
              let there : get_or (map place_in (take i halves)) p.0 h.place ≡ (get_or halves p.0 h).place = get_or-map place_in (take i halves) p.0 h h.place (omega (arith, short, length-take-le i halves (omega arith))) ∙ ap place_in (get_or-take i halves p.0 h short) in
              absurd (pairs_from_apart halves apart p.0 i h short low (sym there ∙ (p.2 ∙ ap place_in (sym is))))
        ]

      more : (done ++ map place_in (take i halves)) ++ h.place ∷ [] ≡ done ++ map place_in (take (i + 1) halves)
      more = append_assoc done (map place_in (take i halves)) (h.place ∷ []) ∙ ap (λ (qs : List ℕ). done ++ qs) (sym (map-append place_in (take i halves) (h ∷ [])) ∙ ap (map place_in) (ap (λ (x : Half). take i halves ++ x ∷ []) (sym is) ∙ sym (take_more halves i h low)))
