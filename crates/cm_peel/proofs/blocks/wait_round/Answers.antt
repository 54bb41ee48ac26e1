use Rattle.std.proofs.Common.{◌≡◌, ◌∙◌, ℕ, ◌+◌, ◌-◌, ◌*◌, ◌<◌, ◌≤◌, List, length, take, drop, sum, sym, ap, subst, arith, rules, length-drop}
use Rattle.std.specs.List.{All}
use Rattle.std.proofs.Math.Seq.{take-length}
use Rattle.std.proofs.Math.ListN.{length-take}
use Rattle.std.proofs.Math.Nat.{mul-le-mul_left}
use Rattle.std.proofs.lemmas.List.{length-take-le}
use Rattle.std.proofs.lemmas.List.Elements.{All-take, All-drop}
use Rattle.cm_spec.specs.Rounds.{removed_after}
use Rattle.cm_graph_edges.specs.declared.incidence.Half.{Half}
use Rattle.cm_graph_edges.specs.Graph.{Graph}
use Rattle.cm_peel.specs.AtRound.{other_places}
use Rattle.cm_peel.specs.Incident.{other_halves_all, pivot_in}
use Rattle.cm_peel.specs.Waiting.{AtBlocks, CanWait, edges_of, vertex_blocks}
use Rattle.cm_peel.proofs.ByBlocks.{AreNext, are_next}
use Rattle.cm_peel.proofs.Same.{at_plan, open_plan, taking_then, wait_plan}
use Rattle.cm_peel.proofs.Settling.{marked_few}
use Rattle.cm_peel.proofs.NextRound.{round_places}
use Rattle.cm_peel.proofs.Pieces.{length_written}
use Rattle.cm_peel.proofs.Unlinking.{chunk_is, gone_before}
use Rattle.cm_peel.proofs.blocks.wait_round.Goals as goal

-- what is listed by the bytes
listed_by : (edges : List (List ℕ)) (read bytes chunk : List ℕ) (halves : List Half) → read ≡ bytes → halves ≡ other_halves_all edges (pivot_in read) chunk → halves ≡ other_halves_all edges (pivot_in bytes) chunk
listed_by edges read bytes chunk halves same is = subst (λ (xs : List ℕ). halves ≡ other_halves_all edges (pivot_in xs) chunk) same is

pub list_halves-others-requires : goal.list_halves-others-requires
list_halves-others-requires g c =
    let inv = c.chunks.invariant in
    let graph : Graph = c.args.edges.now in
    let round : List ℕ = removed_after graph.edges c.args.taking.now.plan.rounds in
    let n : ℕ = c.min-many.result in
    let d : ℕ = c.chunks.at in
    let few : d + n ≤ length round = omega (arith, c.min-many.ensures, inv.high, ap length c.requires.round) in
    let small : n ≤ 64 = omega (arith, c.min-many.ensures) in
    let is = chunk_is graph c.args.taking.now.plan.rounds d n c.args.round.now c.requires.round in
    let long : length (take n (drop d round)) ≡ n = length-take-le n (drop d round) (omega (arith, length-drop d round)) in
    let places : All (λ e. e < length graph.edges) (take n (drop d round)) = All-take (λ e. e < length graph.edges) n (drop d round) (All-drop (λ e. e < length graph.edges) d round (round_places graph.edges c.args.taking.now.plan.rounds)) in
    let many = ap length is ∙ long in
    let room : g.row.K * n ≤ 3 * 64 = omega (arith, mul-le-mul_left g.row.K small, c.requires.state.small.ends) in
    let same = ap (λ j. g.row.K * j) many in (
      search rules,
      (
        search rules,
        (
          c.requires.state.small.ends,
          (
            c.requires.state.small.fits,
            (
              subst (λ (xs : List ℕ). All (λ e. e < length graph.edges) xs) (sym is) places,
              (ap length c.bytes.ensures ∙ (sym inv.state.state.round.leads.taken.bytes_long ∙ inv.state.state.round.round.bytes_long), (length-take-le n c.chunks.ends (omega (arith, inv.ends)) ∙ sym many, (omega (arith, many, inv.known), omega (arith, same, room, inv.halves)))),
            ),
          ),
        ),
      ),
    )

-- a chunk's half-edges can wait
can_wait : (graph : Graph) (t d n : ℕ) (halves : List Half) → AreNext graph t d n halves → CanWait graph.edges t (gone_before graph t d) halves
can_wait graph t d n halves next = record { ends = next.ends; others = next.others; apart = next.apart; fresh = next.fresh }

pub wait-count-requires-clause-free : goal.wait-count-requires-clause-free
wait-count-requires-clause-free g c =
    let inv = c.chunks.invariant in
    open_plan c.args.taking.now.plan c.chunks.taking.plan c.chunks.taking.counts.now (sym inv.taking.plan) inv.free

pub wait-count-requires-clause-state : goal.wait-count-requires-clause-state
wait-count-requires-clause-state g c =
    let inv = c.chunks.invariant in
    let graph : Graph = c.args.edges.now in
    let t : ℕ = c.args.taking.now.plan.rounds in
    let n : ℕ = c.min-many.result in
    let d : ℕ = c.chunks.at in
    let few : d + n ≤ length (removed_after graph.edges t) = omega (arith, c.min-many.ensures, inv.high, ap length c.requires.round) in
    let is = chunk_is graph t d n c.args.round.now c.requires.round in
    let next = are_next g.row.K graph t _ _ d n _ _ _ _ _ _ _ c.requires.state.small.ends c.requires.state.small.edges (at_plan g.row.K graph c.chunks.taking.plan c.args.taking.now.plan c.chunks.room c.chunks.taking.counts.now (g.I.Incidence.links c.chunks.incidence) c.chunks.taking.marks.now c.chunks.taking.bytes.now c.chunks.taking.freed.now _ inv.taking.plan inv.state).state.round few is (listed_by graph.edges c.bytes.result.now c.chunks.taking.bytes.now (take (d + n - d) (drop d c.args.round.now)) _ c.bytes.ensures c.list_halves-others.ensures.halves) in
    (graph, gone_before graph t d, inv.state, (wait_plan graph.edges c.args.taking.now.plan c.chunks.taking.plan (gone_before graph t d) _ (sym inv.taking.plan) (can_wait graph t d n _ next)))

pub overflow_add-count : goal.overflow_add-count
overflow_add-count g c =
    let inv = c.chunks.invariant in
    let graph : Graph = c.args.edges.now in
    let t : ℕ = c.args.taking.now.plan.rounds in
    let n : ℕ = c.min-many.result in
    let d : ℕ = c.chunks.at in
    let few : d + n ≤ length (removed_after graph.edges t) = omega (arith, c.min-many.ensures, inv.high, ap length c.requires.round) in
    let is = chunk_is graph t d n c.args.round.now c.requires.round in
    let next = are_next g.row.K graph t _ _ d n _ _ _ _ _ _ _ c.requires.state.small.ends c.requires.state.small.edges (at_plan g.row.K graph c.chunks.taking.plan c.args.taking.now.plan c.chunks.room c.chunks.taking.counts.now (g.I.Incidence.links c.chunks.incidence) c.chunks.taking.marks.now c.chunks.taking.bytes.now c.chunks.taking.freed.now _ inv.taking.plan inv.state).state.round few is (listed_by graph.edges c.bytes.result.now c.chunks.taking.bytes.now (take (d + n - d) (drop d c.args.round.now)) _ c.bytes.ensures c.list_halves-others.ensures.halves) in
    let r = c.wait-count.ensures.state graph (gone_before graph t d) (wait_plan graph.edges c.args.taking.now.plan c.chunks.taking.plan (gone_before graph t d) _ (sym inv.taking.plan) (can_wait graph t d n _ next)) inv.state in
    let small : c.chunks.count + c.wait-count.result < 67108865 = omega (arith, marked_few c.wait-count.new.taking.marks.now, r.state.round.leads.few_marks, c.wait-count.ensures.count, inv.count) in
    search rules

-- the steps of a chunk
chunk_steps : (k s s₁ s₂ sum sum₁ sum₂ d n many others : ℕ) → s₁ + 3 * sum₁ ≤ s + 3 * (sum + k * d) → s₂ + 3 * sum₂ ≤ s₁ + 3 * (sum₁ + others) → others ≤ k * many → many ≡ n → s₂ + 3 * sum₂ ≤ s + 3 * (sum + k * (d + n))
chunk_steps k s s₁ s₂ sum sum₁ sum₂ d n many others a b few e =
    let p : k * many ≡ k * n = ap (λ x. k * x) e in
    omega arith

others_few : (count few : ℕ) (halves : List Half) → count ≤ few → length (take count halves) ≤ few
others_few count few halves h = omega (arith, length-take count halves)

pub chunks-preserved : goal.chunks-preserved
chunks-preserved g c =
    let inv = c.chunks.invariant in
    let graph : Graph = c.args.edges.now in
    let t : ℕ = c.args.taking.now.plan.rounds in
    let round : List ℕ = removed_after graph.edges t in
    let n : ℕ = c.min-many.result in
    let d : ℕ = c.chunks.at in
    let few : d + n ≤ length round = omega (arith, c.min-many.ensures, inv.high, ap length c.requires.round) in
    let small : n ≤ 64 = omega (arith, c.min-many.ensures) in
    let is = chunk_is graph t d n c.args.round.now c.requires.round in
    let next = are_next g.row.K graph t _ _ d n _ _ _ _ _ _ _ c.requires.state.small.ends c.requires.state.small.edges (at_plan g.row.K graph c.chunks.taking.plan c.args.taking.now.plan c.chunks.room c.chunks.taking.counts.now (g.I.Incidence.links c.chunks.incidence) c.chunks.taking.marks.now c.chunks.taking.bytes.now c.chunks.taking.freed.now _ inv.taking.plan inv.state).state.round few is (listed_by graph.edges c.bytes.result.now c.chunks.taking.bytes.now (take (d + n - d) (drop d c.args.round.now)) _ c.bytes.ensures c.list_halves-others.ensures.halves) in
    let long = ap length is ∙ length-take-le n (drop d round) (omega (arith, length-drop d round)) in
    record {
      high = omega (arith, c.min-many.ensures, inv.high);
      ends = length_written c.list_halves-others.new.ends c.chunks.ends n 64 c.list_halves-others.auto.ends small inv.ends;
      halves = c.list_halves-others.auto.halves ∙ inv.halves;
      known = c.list_halves-others.auto.marks ∙ inv.known;
      free = open_plan c.chunks.taking.plan c.args.taking.now.plan c.wait-count.new.taking.counts.now inv.taking.plan c.wait-count.ensures.free;
      taking = taking_then c.wait-count.new.taking c.chunks.taking c.args.taking.now c.wait-count.ensures.taking inv.taking;
      state = subst (AtBlocks g.row.K graph (vertex_blocks c.wait-count.new.taking.plan.size c.wait-count.new.room c.wait-count.new.taking.counts.now) (g.I.Incidence.links c.wait-count.new.incidence) (edges_of c.wait-count.new.taking)) next.more (c.wait-count.ensures.state graph (gone_before graph t d) (wait_plan graph.edges c.args.taking.now.plan c.chunks.taking.plan (gone_before graph t d) _ (sym inv.taking.plan) (can_wait graph t d n _ next)) inv.state);
      count = omega (arith, c.wait-count.ensures.count, inv.count);
      steps = chunk_steps g.row.K c.args.steps.now c.chunks.steps c.wait-count.new.steps (sum c.args.taking.now.counts.now) (sum c.chunks.taking.counts.now) (sum c.wait-count.new.taking.counts.now) d n _ _ inv.steps c.wait-count.ensures.steps (others_few c.list_halves-others.result _ c.list_halves-others.new.halves c.list_halves-others.ensures.few) long;
    }

pub returns-clause-state : goal.returns-clause-state
returns-clause-state g c =
    let inv = c.chunks.invariant in
    let graph : Graph = c.args.edges.now in
    let round : List ℕ = removed_after graph.edges c.args.taking.now.plan.rounds in
    let all : c.chunks.at ≡ length round = omega (arith, c.chunks-test.false, inv.high, ap length c.requires.round) in
    subst (AtBlocks g.row.K graph (vertex_blocks c.chunks.taking.plan.size c.chunks.room c.chunks.taking.counts.now) (g.I.Incidence.links c.chunks.incidence) (edges_of c.chunks.taking)) (ap (gone_before graph c.args.taking.now.plan.rounds) all ∙ (ap (other_places graph.edges) (take-length round) ∙ ap (other_places graph.edges) (sym c.requires.round))) inv.state

pub returns-clause-steps : goal.returns-clause-steps
returns-clause-steps g c =
    let inv = c.chunks.invariant in
    omega (arith, inv.steps, mul-le-mul_left g.row.K inv.high)
