use Rattle.std.proofs.Common.{◌≡◌, ◌≢◌, ◌∙◌, ◌≤◌, ℕ, List, ap, arith, below_more, get_or, length, min, subst, sym, take, None}
use Rattle.cm_judge_verdict.specs.Verdicts.{ends_of, touching}
use Rattle.cm_judge_core.proofs.Counting.{at_end, lone_is, none_lone, touching_more}
use Rattle.cm_judge_core.proofs.touching.first_lone.Goals as goal
use Rattle.cm_spec.specs.Graph.{IsEdge}
use Rattle.cm_witness_gather.specs.declared.certificate.CoreEdge.{CoreEdge}

abbrev none : CoreEdge
none = record { line = 0; first = 0; second = 0; third = None }

pub count_edge-requires-clause-edge : goal.count_edge-requires-clause-edge
count_edge-requires-clause-edge g c = subst (λ (n : ℕ). IsEdge n (ends_of (get_or c.args.edges.now c.loop-edge.edge-index none))) (sym c.loop-edge.invariant.long) (c.requires.edges c.loop-edge.edge-index none c.loop-edge-test.true)

pub loop-edge-preserved : goal.loop-edge-preserved
loop-edge-preserved g c =
    let edges : List CoreEdge = c.args.edges.now in
    let i : ℕ = c.loop-edge.edge-index in
    record {
      bound = c.count_edge.ensures.bound;
      long = c.count_edge.ensures.length ∙ c.loop-edge.invariant.long;
      counts = λ v h. c.count_edge.ensures.counts v (touching (take i edges) v) (c.loop-edge.invariant.counts v h) ∙ ap (min 2) (sym (touching_more edges i none v c.loop-edge-test.true));
    }

-- the count of a vertex, once all edges are counted
counted : (edges : List CoreEdge) (i v cell : ℕ) → length edges ≤ i → cell ≡ min 2 (touching (take i edges) v) → (cell ≡ 1 → touching edges v ≡ 1) × (touching edges v ≡ 1 → cell ≡ 1)
counted edges i v cell h is =
    let all : cell ≡ min 2 (touching edges v) = at_end edges i v cell h is in
    (λ e. omega arith, λ e. omega arith)

pub returns-then-get-eq1 : goal.returns-then-get-eq1
returns-then-get-eq1 g c =
    let both = counted c.args.edges.now c.loop-edge.edge-index c.loop-v.v _ c.loop-edge-test.false (c.loop-edge.invariant.counts c.loop-v.v c.loop-v-test.true) in
    record { lone = sym (lone_is c.args.edges.now c.loop-v.v (both.0 (sym c.get.ensures ∙ c.if-get-eq1.true)) c.loop-v.invariant) }

pub loop-v-preserved : goal.loop-v-preserved
loop-v-preserved g c =
    let both = counted c.args.edges.now c.loop-edge.edge-index c.loop-v.v _ c.loop-edge-test.false (c.loop-edge.invariant.counts c.loop-v.v c.loop-v-test.true) in
    below_more (λ u. touching c.args.edges.now u ≢ 1) c.loop-v.v c.loop-v.invariant (λ e. c.if-get-eq1.false (c.get.ensures ∙ both.1 e))

pub returns : goal.returns
returns g c = record { lone = sym (none_lone c.args.edges.now c.args.n c.requires.edges (λ u h. c.loop-v.invariant u (omega (arith, c.loop-v-test.false)))) }
