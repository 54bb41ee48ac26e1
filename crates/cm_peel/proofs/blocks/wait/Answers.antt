use Rattle.std.proofs.Common.{◌≡◌, ◌≢◌, ◌∙◌, ℕ, List, [], ◌++◌, ◌%◌, ◌+◌, ◌*◌, ◌/◌, ◌<◌, length, get_or, set, map, sum, take, refl, sym, ap, subst, inl, inr, arith, rules, get_or-set_other}
use Rattle.std.proofs.lemmas.List.Sums.{sum_by-set}
use Rattle.std.proofs.lemmas.Bool.{cases_eq}
use Rattle.std.proofs.lemmas.List.{get_or_default}
use Rattle.cm_graph_edges.specs.declared.incidence.Half.{Half}
use Rattle.cm_graph_edges.specs.Graph.{Graph, Links}
use Rattle.cm_peel.specs.declared.freed.Plan.{Plan}
use Rattle.cm_peel.specs.Waiting.{AtBlocks, CanWait, IsEnd, IsOpen, by_plan, put_room, vertex_blocks}
use Rattle.cm_peel.proofs.Incident.{place_in}
use Rattle.cm_peel.proofs.Same.{open_plan, wait_plan}
use Rattle.cm_peel.proofs.Settling.{marked_few}
use Rattle.cm_peel.proofs.Waits.{room_kept, wait_one}
use Rattle.cm_peel.proofs.blocks.wait.Goals as goal

-- the block of a half-edge
there_for : (k : ℕ) (graph : Graph) (plan : Plan) (room counts : List ℕ) (l : Links) (marks bytes freed done before : List ℕ) (t : ℕ) (halves : List Half) (i : ℕ) (h : Half) → get_or halves i h ≡ h → AtBlocks k graph (vertex_blocks plan.size room counts) l (by_plan plan marks bytes freed) done → CanWait graph.edges t before halves → i < length halves → h.vertex / 65536 < length counts
there_for k graph plan room counts l marks bytes freed done before t halves i h is r w low =
    let end : IsEnd graph.edges h = subst (IsEnd graph.edges) is (w.ends i h low) in
    omega (arith, (r.small.edges (h.place / 4) [] end.0).1.0 (h.place % 4) 0 end.1, end.2, r.space.blocks)

-- the blocks once one more half-edge waits
put_for : (k : ℕ) (graph : Graph) (plan : Plan) (room counts room' counts' : List ℕ) (l : Links) (marks bytes freed done : List ℕ) (halves : List Half) (i : ℕ) (h : Half) → CanWait graph.edges plan.rounds done halves → AtBlocks k graph (vertex_blocks plan.size room counts) l (by_plan plan marks bytes freed) (done ++ map place_in (take i halves)) → IsOpen plan.size counts
    → i < length halves → get_or halves i h ≡ h → room' ≡ put_room plan.size room (h.vertex / 65536) (get_or counts (h.vertex / 65536) 0) h → counts' ≡ set counts (h.vertex / 65536) (get_or counts (h.vertex / 65536) 0 + 1) → length room' ≡ length room → length counts' ≡ length counts
    → AtBlocks k graph (vertex_blocks plan.size room' counts') l (by_plan plan marks bytes freed) (done ++ map place_in (take (i + 1) halves))
put_for k graph plan room counts room' counts' l marks bytes freed done halves i h w r free low at room_is counts_is room_long counts_long = record {
  small = r.small;
  early = r.early;
  positive = r.positive;
  space = room_kept graph plan.size room counts marks room' counts' marks r.space room_long counts_long refl;
  state = rw (room_is, counts_is) (wait_one k graph plan.rounds plan.size plan.blocks plan.each room counts l marks bytes freed done halves i h r.small.edges r.space free w.ends w.others w.apart w.fresh low at r.state);
}

pub put-b-requires-clause-within : goal.put-b-requires-clause-within
put-b-requires-clause-within g c =
    let inv = c.loop-half.invariant in
    let st = c.requires.state in
    let i : ℕ = c.loop-half.half-index in
    let h : Half = get_or c.args.halves.now i (record { vertex = 0; place = 0 }) in
    (inv.state st.0 st.1 st.3 st.2).space.within

pub put-b-requires-clause-few : goal.put-b-requires-clause-few
put-b-requires-clause-few g c =
    let inv = c.loop-half.invariant in
    let st = c.requires.state in
    let i : ℕ = c.loop-half.half-index in
    let h : Half = get_or c.args.halves.now i (record { vertex = 0; place = 0 }) in
    (inv.state st.0 st.1 st.3 st.2).space.few

pub put-b-requires-clause-there : goal.put-b-requires-clause-there
put-b-requires-clause-there g c =
    let inv = c.loop-half.invariant in
    let st = c.requires.state in
    let i : ℕ = c.loop-half.half-index in
    let h : Half = get_or c.args.halves.now i (record { vertex = 0; place = 0 }) in
    let there = there_for g.row.K st.0 c.loop-half.taking.plan _ c.loop-half.taking.counts.now _ _ _ _ _ st.1 _ c.args.halves.now i h (get_or_default c.args.halves.now i _ _ c.loop-half-test.true) (inv.state st.0 st.1 st.3 st.2) st.3 c.loop-half-test.true in
    there

pub put-b-requires-clause-free : goal.put-b-requires-clause-free
put-b-requires-clause-free g c =
    let inv = c.loop-half.invariant in
    let st = c.requires.state in
    let i : ℕ = c.loop-half.half-index in
    let h : Half = get_or c.args.halves.now i (record { vertex = 0; place = 0 }) in
    let there = there_for g.row.K st.0 c.loop-half.taking.plan _ c.loop-half.taking.counts.now _ _ _ _ _ st.1 _ c.args.halves.now i h (get_or_default c.args.halves.now i _ _ c.loop-half-test.true) (inv.state st.0 st.1 st.3 st.2) st.3 c.loop-half-test.true in
    omega (arith, inv.free (h.vertex / 65536) there, st.2.space.even, ap (λ (q : Plan). q.size) inv.taking.plan)

pub settle-count-requires-clause-there : goal.settle-count-requires-clause-there
settle-count-requires-clause-there g c =
    let inv = c.loop-half.invariant in
    let st = c.requires.state in
    let i : ℕ = c.loop-half.half-index in
    let h : Half = get_or c.args.halves.now i (record { vertex = 0; place = 0 }) in
    let there = there_for g.row.K st.0 c.loop-half.taking.plan _ c.loop-half.taking.counts.now _ _ _ _ _ st.1 _ c.args.halves.now i h (get_or_default c.args.halves.now i _ _ c.loop-half-test.true) (inv.state st.0 st.1 st.3 st.2) st.3 c.loop-half-test.true in
    omega (arith, there, c.put-b.ensures.block, c.put-b.auto.counts)

pub settle-count-requires-clause-state : goal.settle-count-requires-clause-state
settle-count-requires-clause-state g c =
    let inv = c.loop-half.invariant in
    let st = c.requires.state in
    let i : ℕ = c.loop-half.half-index in
    let h : Half = get_or c.args.halves.now i (record { vertex = 0; place = 0 }) in
    (st.0, st.1 ++ map place_in (take (i + 1) c.args.halves.now), put_for g.row.K st.0 c.loop-half.taking.plan c.loop-half.room c.loop-half.taking.counts.now c.put-b.new.room c.put-b.new.counts (g.I.Incidence.links c.loop-half.incidence) c.loop-half.taking.marks.now c.loop-half.taking.bytes.now c.loop-half.taking.freed.now st.1 c.args.halves.now i h (wait_plan st.0.edges c.args.taking.now.plan c.loop-half.taking.plan st.1 c.args.halves.now (sym inv.taking.plan) st.3) (inv.state st.0 st.1 st.3 st.2) (open_plan c.args.taking.now.plan c.loop-half.taking.plan c.loop-half.taking.counts.now (sym inv.taking.plan) inv.free) c.loop-half-test.true (get_or_default c.args.halves.now i _ _ c.loop-half-test.true) c.put-b.ensures.room c.put-b.ensures.counts c.put-b.auto.room c.put-b.auto.counts)

pub overflow_add-count : goal.overflow_add-count
overflow_add-count g c =
    let inv = c.loop-half.invariant in
    let st = c.requires.state in
    let i : ℕ = c.loop-half.half-index in
    let h : Half = get_or c.args.halves.now i (record { vertex = 0; place = 0 }) in
    let r = c.settle-count.ensures.state _ _ (put_for g.row.K st.0 c.loop-half.taking.plan c.loop-half.room c.loop-half.taking.counts.now c.put-b.new.room c.put-b.new.counts (g.I.Incidence.links c.loop-half.incidence) c.loop-half.taking.marks.now c.loop-half.taking.bytes.now c.loop-half.taking.freed.now st.1 c.args.halves.now i h (wait_plan st.0.edges c.args.taking.now.plan c.loop-half.taking.plan st.1 c.args.halves.now (sym inv.taking.plan) st.3) (inv.state st.0 st.1 st.3 st.2) (open_plan c.args.taking.now.plan c.loop-half.taking.plan c.loop-half.taking.counts.now (sym inv.taking.plan) inv.free) c.loop-half-test.true (get_or_default c.args.halves.now i _ _ c.loop-half-test.true) c.put-b.ensures.room c.put-b.ensures.counts c.put-b.auto.room c.put-b.auto.counts) in
    let small : c.loop-half.count + c.settle-count.result < 67108865 = omega (arith, marked_few c.settle-count.new.taking.marks.now, r.state.round.leads.few_marks, c.settle-count.ensures.count, inv.count) in
    search rules

-- the sum of the counts after one more
sum_put : (counts counts' : List ℕ) (b x y : ℕ) → b < length counts → counts' ≡ set counts b (get_or counts b 0 + 1) → sum counts' ≡ sum counts + 1
sum_put counts counts' b x y low is = omega (arith, ap sum is, sum_by-set (λ (n : ℕ). n) counts b (get_or counts b 0 + 1) 0 low)

-- no block is full after a step
free_for : (size b : ℕ) (old put new : List ℕ) → IsOpen size old → length new ≡ length old → put ≡ set old b (get_or old b 0 + 1) → 2 * get_or new b 0 < size → ((k : ℕ) → k ≢ b → get_or new k 0 ≡ get_or put k 0) → IsOpen size new
free_for size b old put new free long is here others k h = elim (cases_eq k b) [
  | inl same ↦ subst (λ j. 2 * get_or new j 0 < size) (sym same) here
  | inr differ ↦ omega (arith, free k (omega (arith, h, long)), others k differ, ap (λ (xs : List ℕ). get_or xs k 0) is, get_or-set_other old b k (get_or old b 0 + 1) 0 differ)
]

pub loop-half-preserved : goal.loop-half-preserved
loop-half-preserved g c =
    let inv = c.loop-half.invariant in
    let st = c.requires.state in
    let i : ℕ = c.loop-half.half-index in
    let h : Half = get_or c.args.halves.now i (record { vertex = 0; place = 0 }) in
    let there = there_for g.row.K st.0 c.loop-half.taking.plan _ c.loop-half.taking.counts.now _ _ _ _ _ st.1 _ c.args.halves.now i h (get_or_default c.args.halves.now i _ _ c.loop-half-test.true) (inv.state st.0 st.1 st.3 st.2) st.3 c.loop-half-test.true in
    let same = c.settle-count.ensures.taking in
    let at : c.put-b.result < length c.loop-half.taking.counts.now = omega (arith, there, c.put-b.ensures.block) in
    let put : c.put-b.new.counts ≡ set c.loop-half.taking.counts.now c.put-b.result (get_or c.loop-half.taking.counts.now c.put-b.result 0 + 1) = rw c.put-b.ensures.block c.put-b.ensures.counts in
    record {
      free = free_for c.args.taking.now.plan.size c.put-b.result c.loop-half.taking.counts.now c.put-b.new.counts c.settle-count.new.taking.counts.now inv.free (same.counts_long ∙ c.put-b.auto.counts) put (omega (arith, c.settle-count.ensures.free, ap (λ (q : Plan). q.size) inv.taking.plan)) c.settle-count.ensures.others;
      taking = record {
        plan = same.plan ∙ inv.taking.plan;
        bytes = same.bytes ∙ inv.taking.bytes;
        freed = same.freed ∙ inv.taking.freed;
        marks = same.marks ∙ inv.taking.marks;
        counts = same.counts ∙ inv.taking.counts;
        bytes_long = same.bytes_long ∙ inv.taking.bytes_long;
        freed_long = same.freed_long ∙ inv.taking.freed_long;
        marks_long = same.marks_long ∙ inv.taking.marks_long;
        counts_long = same.counts_long ∙ (c.put-b.auto.counts ∙ inv.taking.counts_long);
      };
      state = λ graph done w r. c.settle-count.ensures.state graph _ (put_for g.row.K graph c.loop-half.taking.plan c.loop-half.room c.loop-half.taking.counts.now c.put-b.new.room c.put-b.new.counts (g.I.Incidence.links c.loop-half.incidence) c.loop-half.taking.marks.now c.loop-half.taking.bytes.now c.loop-half.taking.freed.now done c.args.halves.now i h (wait_plan graph.edges c.args.taking.now.plan c.loop-half.taking.plan done c.args.halves.now (sym inv.taking.plan) w) (inv.state graph done w r) (open_plan c.args.taking.now.plan c.loop-half.taking.plan c.loop-half.taking.counts.now (sym inv.taking.plan) inv.free) c.loop-half-test.true (get_or_default c.args.halves.now i _ _ c.loop-half-test.true) c.put-b.ensures.room c.put-b.ensures.counts c.put-b.auto.room c.put-b.auto.counts);
      count = omega (arith, c.settle-count.ensures.count, inv.count);
      steps = omega (arith, c.settle-count.ensures.steps, inv.steps, sum_put c.loop-half.taking.counts.now c.put-b.new.counts c.put-b.result 0 0 at put);
    }
