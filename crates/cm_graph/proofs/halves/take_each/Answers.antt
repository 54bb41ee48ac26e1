use Rattle.std.proofs.Common.{◌≡◌, ◌/◌, ◌%◌, ◌<◌, ℕ, List, [], Option, None, get_or, set, take, arith, ap, sym, subst, ◌∙◌}
use Rattle.cm_graph_edges.specs.Graph.{Links, removed, removed_all}
use Rattle.cm_graph.specs.Next.{AreNext}
use Rattle.cm_graph_edges.specs.declared.incidence.Half.{Half}
use Rattle.cm_graph.proofs.Linking.{links_eq}
use Rattle.cm_graph.proofs.Removing.{removed_next, removed_more, removed_all-vertices, next_there}
use Rattle.cm_graph.proofs.halves.take_each.Goals as goal

pub take_out-requires-clause-vertex : goal.take_out-requires-clause-vertex
take_out-requires-clause-vertex g c =
    let none : Half = record { vertex = 0; place = 0 } in
    let old : Links = g.S.Halves.kept c.args.store.now in
    subst (λ n. (get_or c.args.halves.now c.loop-half.half-index none).vertex < n) (sym (ap (λ (l : Links). l.vertices) c.loop-half.invariant.store ∙ removed_all-vertices old (take c.loop-half.half-index c.args.halves.now))) (c.requires.vertices c.loop-half.half-index none c.loop-half-test.true)

pub take_out-requires-clause-next : goal.take_out-requires-clause-next
take_out-requires-clause-next g c =
    let none : Half = record { vertex = 0; place = 0 } in
    let old : Links = g.S.Halves.kept c.args.store.now in
    let i : ℕ = c.loop-half.half-index in
    let half : Half = get_or c.args.halves.now i none in
    let now : Links = removed_all old (take i c.args.halves.now) in
    let each : c.removed.result.each ≡ (removed now half.place).slots = c.removed.ensures ∙ ap (λ s. set s (half.place / 4) (set (get_or s (half.place / 4) []) (half.place % 4) None)) (c.slots-slots.ensures.slots ∙ ap (λ (l : Links). l.slots) c.loop-half.invariant.store) in
    subst (λ (s : List (List (Option ℕ))). AreNext s (g.S.Halves.kept c.loop-half.store).slots half) (sym each)
    (subst (λ (l : Links). AreNext (removed now half.place).slots l.slots half) (sym c.loop-half.invariant.store)
    (removed_next now half (next_there old c.args.halves.now i none c.requires.halves c.loop-half-test.true)))

pub loop-half-preserved : goal.loop-half-preserved
loop-half-preserved g c =
    let none : Half = record { vertex = 0; place = 0 } in
    let old : Links = g.S.Halves.kept c.args.store.now in
    let i : ℕ = c.loop-half.half-index in
    let half : Half = get_or c.args.halves.now i none in
    let now : Links = removed_all old (take i c.args.halves.now) in
    let each : c.removed.result.each ≡ (removed now half.place).slots = c.removed.ensures ∙ ap (λ s. set s (half.place / 4) (set (get_or s (half.place / 4) []) (half.place % 4) None)) (c.slots-slots.ensures.slots ∙ ap (λ (l : Links). l.slots) c.loop-half.invariant.store) in
    record {
      store = c.take_out.ensures ∙ (links_eq _ _ _ _ (ap (λ (l : Links). l.vertices) c.loop-half.invariant.store) each ∙ sym (removed_more old c.args.halves.now i none c.loop-half-test.true));
      steps = omega (arith, c.tick.ensures, c.loop-half.invariant.steps);
    }
