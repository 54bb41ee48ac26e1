use Rattle.std.proofs.Common.{◌≡◌, ◌-◌, ◌+◌, ◌*◌, ◌<◌, ℕ, List, Option, length, get_or, set, take, set-set, rules, arith, refl, ap, sym, subst, ◌∙◌}
use Rattle.std.proofs.lemmas.Option.{slice_get_within}
use Rattle.cm_graph_edges.specs.Graph.{Links, linked, halves_of}
use Rattle.cm_graph.specs.Next.{AreNext}
use Rattle.cm_graph_edges.specs.declared.incidence.Half.{Half}
use Rattle.cm_graph.proofs.Positions.{place_edge, place_position}
use Rattle.cm_graph.proofs.Linking.{links_eq, linked_whole, linked_next, few_edges}
use Rattle.cm_graph.proofs.halves.unlink_edge.Goals as goal
use Rattle.cm_spec.specs.declared.limits.TheConstants.{MAX_EDGES}

pub loop-j-init : goal.loop-j-init
loop-j-init g c =
    let wide : length c.args.ends ≡ g.row.K = search rules in
    record { store = linked_whole (g.S.Halves.kept c.args.store.now) c.args.e g.row.K c.args.ends c.requires.linked (omega (arith, wide)); steps = refl }

pub overflow_mul-place : goal.overflow_mul-place
overflow_mul-place g c =
    let old : Links = g.S.Halves.kept c.args.store.now in
    let small : c.args.e < MAX_EDGES = few_edges old (g.S.Halves.kept c.loop-j.store) c.args.e (take c.loop-j.j c.args.ends) c.slots-slots.result.each (slice_get_within old.slots c.args.e (halves_of c.args.ends) c.requires.linked) c.loop-j.invariant.store c.slots-slots.ensures.slots c.slots-slots.ensures.few in
    omega (arith, small)

pub overflow_add-place : goal.overflow_add-place
overflow_add-place g c =
    let old : Links = g.S.Halves.kept c.args.store.now in
    let small : c.args.e < MAX_EDGES = few_edges old (g.S.Halves.kept c.loop-j.store) c.args.e (take c.loop-j.j c.args.ends) c.slots-slots.result.each (slice_get_within old.slots c.args.e (halves_of c.args.ends) c.requires.linked) c.loop-j.invariant.store c.slots-slots.ensures.slots c.slots-slots.ensures.few in
    omega (arith, small, c.loop-j-test.true, c.loop-j.auto.j, c.requires.width.1)

pub take_out-requires-clause-next : goal.take_out-requires-clause-next
take_out-requires-clause-next g c =
    let old : Links = g.S.Halves.kept c.args.store.now in
    let e : ℕ = c.args.e in
    let j : ℕ = c.loop-j.j - 1 in
    let ends : List ℕ = c.args.ends in
    let some : c.loop-j.j ≡ j + 1 = omega (arith, c.loop-j-test.true) in
    let wide : length ends ≡ g.row.K = search rules in
    let four : j < 4 = omega (arith, c.loop-j-test.true, c.loop-j.auto.j, c.requires.width.1) in
    let position : j < length ends = omega (arith, c.loop-j-test.true, c.loop-j.auto.j, wide) in
    let half : Half = record { vertex = get_or ends j 0; place = 4 * e + j } in
    let now : (g.S.Halves.kept c.loop-j.store).slots ≡ set old.slots e (halves_of (take (j + 1) ends)) = ap (λ (l : Links). l.slots) c.loop-j.invariant.store ∙ ap (λ n. set old.slots e (halves_of (take n ends))) some in
    let each : c.linked.result.each ≡ (linked old e (take j ends)).slots = c.linked.ensures ∙ (ap (λ s. set s e (halves_of (take j ends))) (c.slots-slots.ensures.slots ∙ now) ∙ set-set old.slots e (halves_of (take (j + 1) ends)) (halves_of (take j ends))) in
    let after : set (linked old e (take j ends)).slots e (halves_of (take (j + 1) ends)) ≡ (g.S.Halves.kept c.loop-j.store).slots = set-set old.slots e (halves_of (take j ends)) (halves_of (take (j + 1) ends)) ∙ sym now in
    subst (λ (s : List (List (Option ℕ))). AreNext s (g.S.Halves.kept c.loop-j.store).slots half) (sym each)
    (subst (λ (s : List (List (Option ℕ))). AreNext (linked old e (take j ends)).slots s half) after
    (linked_next old e j ends half (slice_get_within old.slots e (halves_of ends) c.requires.linked) position (place_edge e j four) (place_position e j four) refl))

pub loop-j-preserved : goal.loop-j-preserved
loop-j-preserved g c =
    let old : Links = g.S.Halves.kept c.args.store.now in
    let e : ℕ = c.args.e in
    let j : ℕ = c.loop-j.j - 1 in
    let ends : List ℕ = c.args.ends in
    let now : (g.S.Halves.kept c.loop-j.store).slots ≡ set old.slots e (halves_of (take c.loop-j.j ends)) = ap (λ (l : Links). l.slots) c.loop-j.invariant.store in
    let each : c.linked.result.each ≡ (linked old e (take j ends)).slots = c.linked.ensures ∙ (ap (λ s. set s e (halves_of (take j ends))) (c.slots-slots.ensures.slots ∙ now) ∙ set-set old.slots e (halves_of (take c.loop-j.j ends)) (halves_of (take j ends))) in
    record {
      store = c.take_out.ensures ∙ links_eq _ _ _ _ (ap (λ (l : Links). l.vertices) c.loop-j.invariant.store) each;
      steps = omega (arith, c.tick.ensures, c.loop-j.invariant.steps, c.loop-j-test.true);
    }
