-- A round by blocks, from its first half-edge to its last.
use Rattle.std.proofs.Common.{◌≡◌, ◌⊎◌, ℕ, suc, sum, ◌∷◌, ◌+◌, ◌-◌, ◌*◌, ◌/◌, ◌%◌, ◌<◌, ◌≤◌, true, false, not, ◌&&◌, List, [], ◌++◌, length, get_or, replicate, map, take, drop, sym, refl, ap, ◌∙◌, subst, inl, inr, arith, eqb, nat_cmp}
use Rattle.std.specs.List.{All, IsDistinct}
use Rattle.std.specs.List.Sorted.{IsSorted, IsPermutation}
use Rattle.std.proofs.Math.Nat.{mul-div-le, le-div_iff_mul-le}
use Rattle.std.proofs.lemmas.List.Sums.{sum_by-cons}
use Rattle.std.proofs.lemmas.Bool.{both_ways, cases_Bool, cond-true, eq-eqb, false≢true}
use Rattle.std.proofs.lemmas.List.Sorted.{list_any-IsPermutation}
use Rattle.std.proofs.lemmas.Map.Keys.{IsDistinct-IsPermutation}
use Rattle.cm_spec.specs.Lists.{has, numbers_from}
use Rattle.cm_spec.specs.Graph.{AreEdges, ends_at}
use Rattle.cm_spec.specs.Rounds.{is_left, level_of, removed_after, pivot_of}
use Rattle.cm_graph_edges.specs.declared.incidence.Half.{Half}
use Rattle.cm_graph_edges.specs.Graph.{Graph, Links, places_of, removed_all}
use Rattle.cm_peel.specs.AtRound.{AreTaken, InRound, IsOtherPlace, byte_of, is_half_kept, least, tag_of}
use Rattle.cm_peel.specs.Incident.{is_half_left, other_halves_all, pivot_in}
use Rattle.cm_peel.specs.Marks.{IsUnmarked, is_marked}
use Rattle.cm_peel.specs.RoundLaws.{removed_rises}
use Rattle.cm_peel.specs.SetLaws.{Rises-filter, Rises-from_increasing, Rises-numbers, AreApart, Rises-apart}
use Rattle.cm_peel.specs.Waiting.{AreEmpty, AreOpen, InBlocks, InTaking, IsEnd, IsRoom, Leads, edge_blocks, halves_in, marked_of, vertex_blocks, waiting_in}
use Rattle.cm_peel.proofs.Halves.{All-others_all, all_rise, others_agree}
use Rattle.cm_peel.proofs.Incident.{AreLinked-agree, place_in}
use Rattle.cm_peel.proofs.InRound.{in_round_more}
use Rattle.cm_peel.proofs.Falls.{falls_level, removed_gone}
use Rattle.cm_peel.proofs.Leading.{tag_kept}
use Rattle.cm_peel.proofs.Parts.{IsPart}
use Rattle.cm_peel.proofs.Settling.{leads_ended}
use Rattle.cm_peel.proofs.Marked.{in_round_members}
use Rattle.cm_peel.proofs.Marking.{none_pass, unmarked}
use Rattle.cm_peel.proofs.NextRound.{eqb-flip, round_inside}
use Rattle.cm_peel.proofs.Pieces.{rises_sorted}
use Rattle.cm_peel.proofs.Sets.{same_from}
use Rattle.cm_peel.proofs.Taking.{are_distinct}
use Rattle.cm_peel.proofs.Unlinking.{few_ends, chunk_of, chunk_member, chunk_rises, gone_before, gone_more, others_are, parts_apart, pivot_small, take_member}

-- no half-edge waits for a block
none_waits : (size : ℕ) (room counts : List ℕ) (b : ℕ) → get_or counts b 0 ≡ 0 → waiting_in size room counts b ≡ []
none_waits size room counts b none = ap (λ k. halves_in (take (2 * k) (drop (b * size) room))) none

pub marked_none : (marks : List ℕ) → marks ≡ replicate (length marks) 0 → marked_of marks ≡ []
marked_none marks clear = none_pass (is_marked marks) (numbers_from 0 (64 * length marks)) (λ e. unmarked marks e clear)

-- before the first half-edge waits
pub blocks_begun : (graph : Graph) (t size blocks each : ℕ) (room counts : List ℕ) (l : Links) (marks bytes freed : List ℕ) → InTaking graph [] l (edge_blocks t blocks each marks bytes freed) → AreEmpty counts → InBlocks graph (vertex_blocks size room counts) l (edge_blocks t blocks each marks bytes freed) []
blocks_begun graph t size blocks each room counts l marks bytes freed r empty = record {
  gone = [];
  round = r;
  fits = λ b m. omega (arith, empty b m);
  waits = λ b m. rw (none b m) (λ i d h. absurd (omega arith));
  apart = λ b m. rw (none b m) tt;
  waits_done = λ b q m n. absurd (false≢true (ap (λ (hs : List Half). has (map place_in hs) q) (sym (none b m)) ∙ n));
  gone_done = λ q m. m;
  all = λ q m n. absurd (false≢true m);
} where
  none : (b : ℕ) → b < length counts → waiting_in size room counts b ≡ []
  none b m = none_waits size room counts b (empty b m)

-- a round by which the same half-edges are gone
in_round_gone : (graph : Graph) (t : ℕ) (gone gone' : List ℕ) (l : Links) (next bytes : List ℕ) → InRound graph t gone l next bytes → ((q : ℕ) → has gone q ≡ has gone' q) → InRound graph t gone' l next bytes
in_round_gone graph t gone gone' l next bytes r same = record {
  linked = AreLinked-agree graph (is_half_kept graph.edges t gone) (is_half_kept graph.edges t gone') l r.linked (λ e j h low. ap (λ b. is_half_left graph.edges t e j && not b) (sym (same (4 * e + j))));
  others = λ q m. r.others q (same q ∙ m);
  apart = r.apart;
  inside = r.inside;
  members = r.members;
  bytes_long = r.bytes_long;
  byte = r.byte;
  next_byte = r.next_byte;
  taken = r.taken;
}

-- once none waits, all of them are gone
pub blocks_ended : (graph : Graph) (t size blocks each : ℕ) (room counts : List ℕ) (l : Links) (marks bytes freed done : List ℕ) → InBlocks graph (vertex_blocks size room counts) l (edge_blocks t blocks each marks bytes freed) done → AreEmpty counts → InTaking graph done l (edge_blocks t blocks each marks bytes freed)
blocks_ended graph t size blocks each room counts l marks bytes freed done r empty = record {
  after = r.round.after;
  next = r.round.next;
  leads = r.round.leads;
  free = r.round.free;
  round = in_round_gone graph t r.gone done l r.round.next r.round.after r.round.round (λ q. same_from (r.gone_done q) (λ m. gone q m (cases_Bool (has r.gone q))));
} where
  gone : (q : ℕ) → has done q ≡ true → (has r.gone q ≡ true) ⊎ (has r.gone q ≡ false) → has r.gone q ≡ true
  gone q m (inl n) = n
  gone q m (inr none) =
      let f = r.all q m none in
      absurd (false≢true (ap (λ (hs : List Half). has (map place_in hs) q) (sym (none_waits size room counts f.0 (empty f.0 f.1))) ∙ f.2))

-- once no place waits either, the edges that are freed are those that are marked
pub taking_ended : (graph : Graph) (t blocks each : ℕ) (gone : List ℕ) (l : Links) (marks bytes freed after next : List ℕ) → Leads (edge_blocks t blocks each marks bytes freed) after next → ((b : ℕ) → b < blocks → get_or freed b 0 ≡ 0) → InRound graph t gone l next after → InRound graph t gone l (marked_of marks) bytes
taking_ended graph t blocks each gone l marks bytes freed after next leads none r =
    let e = leads_ended t blocks each marks bytes freed after next leads none in
    subst (λ (xs : List ℕ). InRound graph t gone l (marked_of marks) xs) e.0 (in_round_members graph t gone l next (marked_of marks) after r (Rises-apart 0 (marked_of marks) (Rises-filter (is_marked marks) 0 _ (Rises-numbers 0 (64 * length marks)))) e.1)

-- before a place waits
pub taking_begun : (graph : Graph) (t blocks each : ℕ) (l : Links) (marks bytes freed : List ℕ) → InRound graph t [] l [] bytes → Leads (edge_blocks t blocks each marks bytes freed) bytes [] → ((b : ℕ) → b < blocks → get_or freed b 0 ≡ 0) → 0 < each → InTaking graph [] l (edge_blocks t blocks each marks bytes freed)
taking_begun graph t blocks each l marks bytes freed r leads none some = record {
  after = bytes;
  next = [];
  leads = leads;
  free = λ b low. omega (arith, none b low, some);
  round = r;
}

-- some half-edges of the round are removed, and the places that this frees wait, or are taken
pub taking_more : (k : ℕ) (graph : Graph) (t blocks each : ℕ) (gone : List ℕ) (l m : Links) (part : List Half) (places marks bytes freed marks' bytes' freed' : List ℕ) → k ≤ 3 → AreEdges k graph.vertices graph.edges → InTaking graph gone l (edge_blocks t blocks each marks bytes freed) → IsPart graph.edges t l part → m ≡ removed_all l part → places ≡ places_of m part
    → AreOpen blocks each freed' → ((after next : List ℕ) → Leads (edge_blocks t blocks each marks bytes freed) after next → (after' : List ℕ) × (next' : List ℕ) × AreTaken t places after after' next next' × Leads (edge_blocks t blocks each marks' bytes' freed') after' next') → InTaking graph (gone ++ map place_in part) m (edge_blocks t blocks each marks' bytes' freed')
taking_more k graph t blocks each gone l m part places marks bytes freed marks' bytes' freed' small are r p is listed free step =
    let w = step r.after r.next r.leads in
    record {
      after = w.0;
      next = w.1;
      leads = w.3;
      free = free;
      round = in_round_more k graph t gone l m part r.next r.after w.1 w.0 small are r.round p.halves.0 p.others is (subst (λ (xs : List ℕ). AreTaken t xs r.after w.0 r.next w.1) listed w.2);
    }

-- the byte of an edge of this round is what it is once all places are taken
round_byte : (t blocks each : ℕ) (marks bytes freed after next : List ℕ) (e : ℕ) → Leads (edge_blocks t blocks each marks bytes freed) after next → e < length bytes → get_or after e 0 / 4 ≡ t % 2 → get_or bytes e 0 ≡ get_or after e 0
round_byte t blocks each marks bytes freed after next e r h at =
    let here : eqb (get_or bytes e 0 / 4) (t % 2) ≡ true = sym (tag_kept t r.waiting bytes after [] r.fresh e r.taken h) ∙ eq-eqb _ _ at in
    sym (r.taken.byte e h ∙ cond-true _ (get_or bytes e 0) (least (tag_of (suc t)) r.waiting e (get_or bytes e 0)) here)

-- what is known of the half-edges of a chunk before they wait
pub record AreNext (graph : Graph) (t d n : ℕ) (halves : List Half) : Type 0 where
  pub ends : All (IsEnd graph.edges) halves
  pub others : (q : ℕ) → has (map place_in halves) q ≡ true → IsOtherPlace graph.edges t q
  pub apart : AreApart (map place_in halves)
  pub fresh : (q : ℕ) → has (map place_in halves) q ≡ true → has (gone_before graph t d) q ≡ false
  pub more : gone_before graph t d ++ map place_in halves ≡ gone_before graph t (d + n)

chunk_next : (k : ℕ) (graph : Graph) (t d n : ℕ) → k ≤ 3 → AreEdges k graph.vertices graph.edges → d + n ≤ length (removed_after graph.edges t) → AreNext graph t d n (other_halves_all graph.edges (pivot_of graph.edges) (chunk_of graph t d n))
chunk_next k graph t d n small are few = record {
  ends = All-others_all (IsEnd graph.edges) graph.edges (pivot_of graph.edges) (chunk_of graph t d n) (λ e i m h.
      let edge : (4 * e + i) / 4 ≡ e = omega (arith, short e m, h) in
      let position : (4 * e + i) % 4 ≡ i = omega (arith, short e m, h) in
      rw (edge, position) (inside e m, h, refl));
  others = λ q m. (in_chunk q m).1;
  apart = Rises-apart (4 * 0) _ (all_rise graph.edges (pivot_of graph.edges) (chunk_of graph t d n) 0 (chunk_rises graph.edges t d n few) short);
  fresh = λ q m. fresh q m (cases_Bool (has (gone_before graph t d) q));
  more = gone_more graph t d n;
} where
  inside : (e : ℕ) → has (chunk_of graph t d n) e ≡ true → e < length graph.edges
  inside e m = (round_inside graph.edges t e (chunk_member graph t d n e m)).0

  short : (e : ℕ) → has (chunk_of graph t d n) e ≡ true → length (ends_at graph.edges e) ≤ 4
  short e m = few_ends k graph small are e (inside e m)

  in_chunk : (q : ℕ) → has (map place_in (other_halves_all graph.edges (pivot_of graph.edges) (chunk_of graph t d n))) q ≡ true → (has (chunk_of graph t d n) (q / 4) ≡ true) × IsOtherPlace graph.edges t q
  in_chunk q m = others_are k graph t (chunk_of graph t d n) q small are (λ e h. chunk_member graph t d n e h) m

  fresh : (q : ℕ) → has (map place_in (other_halves_all graph.edges (pivot_of graph.edges) (chunk_of graph t d n))) q ≡ true → (has (gone_before graph t d) q ≡ true) ⊎ (has (gone_before graph t d) q ≡ false) → has (gone_before graph t d) q ≡ false
  fresh q m (inr none) = none
  fresh q m (inl some) =
      let round : List ℕ = removed_after graph.edges t in
      let early = others_are k graph t (take d round) q small are (λ e h. take_member d round e h) some in
      absurd (both_ways _ (parts_apart 0 d round (q / 4) (removed_rises graph.edges t) (take_member n (drop d round) (q / 4) (in_chunk q m).0)) early.0)

-- the half-edges of a chunk, by the bytes
chunk_pivots : (k : ℕ) (graph : Graph) (t blocks each d n : ℕ) (gone : List ℕ) (l : Links) (marks bytes freed : List ℕ) → k ≤ 3 → AreEdges k graph.vertices graph.edges → InTaking graph gone l (edge_blocks t blocks each marks bytes freed) → other_halves_all graph.edges (pivot_in bytes) (chunk_of graph t d n) ≡ other_halves_all graph.edges (pivot_of graph.edges) (chunk_of graph t d n)
chunk_pivots k graph t blocks each d n gone l marks bytes freed small are r = others_agree graph.edges (pivot_in bytes) (pivot_of graph.edges) (chunk_of graph t d n) (λ e m.
    let at : has (removed_after graph.edges t) e ≡ true = chunk_member graph t d n e m in
    let h : e < length graph.edges = (round_inside graph.edges t e at).0 in
    let gone : is_left graph.edges (suc t) e ≡ false = removed_gone graph.edges t e at in
    let left : is_left graph.edges t e ≡ true = (round_inside graph.edges t e at).1 in
    let byte : get_or r.after e 0 ≡ byte_of graph.edges e = r.round.byte e h gone in
    let level : level_of graph.edges e - 1 ≡ t = falls_level graph.edges t e h left gone in
    let small : pivot_of graph.edges e < 4 = omega (arith, pivot_small k graph e small are h) in
    let tag : get_or r.after e 0 / 4 ≡ t % 2 = omega (arith, byte, small, level, ap (λ x. 4 * (x % 2)) level) in
    let same : get_or bytes e 0 ≡ get_or r.after e 0 = round_byte t blocks each marks bytes freed r.after r.next e r.leads (omega (arith, h, r.round.bytes_long, r.leads.taken.bytes_long)) tag in
    omega (arith, same, byte, small))

pub are_next : (k : ℕ) (graph : Graph) (t blocks each d n : ℕ) (gone : List ℕ) (l : Links) (marks bytes freed chunk : List ℕ) (halves : List Half) → k ≤ 3 → AreEdges k graph.vertices graph.edges → InTaking graph gone l (edge_blocks t blocks each marks bytes freed) → d + n ≤ length (removed_after graph.edges t) → chunk ≡ chunk_of graph t d n
    → halves ≡ other_halves_all graph.edges (pivot_in bytes) chunk → AreNext graph t d n halves
are_next k graph t blocks each d n gone l marks bytes freed chunk halves small are r few is listed = subst (AreNext graph t d n) (sym (listed ∙ (ap (other_halves_all graph.edges (pivot_in bytes)) is ∙ chunk_pivots k graph t blocks each d n gone l marks bytes freed small are r))) (chunk_next k graph t d n small are few)

-- the parts of the blocks lie in the room
pub parts_within : (long blocks : ℕ) → blocks * (2 * (long / 2 / blocks)) ≤ long
parts_within long blocks =
    let less : blocks * (long / 2 / blocks) ≤ long / 2 = mul-div-le (long / 2) blocks in
    let two : blocks * (2 * (long / 2 / blocks)) ≡ 2 * (blocks * (long / 2 / blocks)) = omega arith in
    omega (arith, less, two)

pub part_some : (long blocks : ℕ) → 0 < blocks → 2 * blocks ≤ long → 0 < 2 * (long / 2 / blocks)
part_some long blocks some room =
    let one : 1 ≤ long / 2 / blocks = (le-div_iff_mul-le {k = blocks} {x = 1} {y = long / 2} some).1 (omega (arith, room)) in
    omega (arith, one)

pub room_of_parts : (graph : Graph) (list counts marks : List ℕ) → length list ≤ 67109056 → graph.vertices ≤ 65536 * length counts → IsUnmarked (length graph.edges) marks → IsRoom graph (2 * (length list / 2 / length counts)) list counts marks
room_of_parts graph list counts marks few blocks u = record {
  even = omega arith;
  within = parts_within (length list) (length counts);
  few = few;
  blocks = blocks;
  all_marks = u.room;
}

-- how many edges are marked at the end of the round
pub all_counted : (marks₀ marks₁ marks₂ marks₃ : List ℕ) (a b c : ℕ) → marks₀ ≡ replicate (length marks₀) 0 → length (marked_of marks₁) ≡ length (marked_of marks₀) + a → length (marked_of marks₂) ≡ length (marked_of marks₁) + b → length (marked_of marks₃) ≡ length (marked_of marks₂) + c → length (marked_of marks₃) ≡ a + b + c
all_counted marks₀ marks₁ marks₂ marks₃ a b c clear one two three = omega (arith, one, two, three, ap length (marked_none marks₀ clear))

pub sum_none : (counts : List ℕ) → AreEmpty counts → sum counts ≡ 0
sum_none [] none = refl
sum_none (x ∷ xs) none = omega (arith, none 0 (omega arith), sum_by-cons (λ (n : ℕ). n) x xs, sum_none xs (λ b m. none (suc b) (omega arith)))

-- the same round once its list is sorted
pub round_sorted : (graph : Graph) (t : ℕ) (gone : List ℕ) (l : Links) (next xs bytes : List ℕ) → InRound graph t gone l next bytes → IsPermutation next xs → IsSorted nat_cmp xs → InRound graph t gone l xs bytes
round_sorted graph t gone l next xs bytes r moved up =
    let apart : IsDistinct eqb xs = IsDistinct-IsPermutation eqb eqb-flip next xs moved (are_distinct next r.apart) in
    in_round_members graph t gone l next xs bytes r (Rises-apart 0 xs (Rises-from_increasing 0 xs (rises_sorted xs up apart) (λ _. omega arith))) (λ e. sym (list_any-IsPermutation (λ x. eqb x e) next xs moved))
