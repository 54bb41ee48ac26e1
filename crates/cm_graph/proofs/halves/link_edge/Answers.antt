use Rattle.std.proofs.Common.{◌≡◌, ◌+◌, ◌*◌, ◌/◌, ◌<◌, ℕ, List, [], Option, length, get_or, set, take, false, rules, arith, refl, ap, sym, subst, ◌∙◌}
use Rattle.std.proofs.lemmas.Option.{slice_get_within}
use Rattle.cm_graph_edges.specs.Graph.{Links, degree_of, linked, halves_of, slot_touches}
use Rattle.cm_graph.specs.Next.{AreNext, halves_at}
use Rattle.cm_graph_edges.specs.declared.incidence.Half.{Half}
use Rattle.cm_graph.proofs.Degrees.{room_at}
use Rattle.cm_graph.proofs.Positions.{place_edge, place_position}
use Rattle.cm_graph.proofs.Linking.{links_eq, relinked, linked_bare, linked_next, linked_apart, few_edges}
use Rattle.cm_graph.proofs.halves.link_edge.Goals as goal
use Rattle.cm_spec.specs.declared.limits.TheConstants.{MAX_EDGES}

pub loop-j-init : goal.loop-j-init
loop-j-init g c = record { end = refl; store = linked_bare _ _ c.requires.free; steps = omega arith }

pub overflow_mul-half : goal.overflow_mul-half
overflow_mul-half g c =
    let old : Links = g.S.Halves.kept c.args.store.now in
    let small : c.args.e < MAX_EDGES = few_edges old (g.S.Halves.kept c.loop-j.store) c.args.e (take c.loop-j.j c.args.ends) c.slots-slots.result.each (slice_get_within old.slots c.args.e [] c.requires.free) c.loop-j.invariant.store c.slots-slots.ensures.slots c.slots-slots.ensures.few in
    omega (arith, small)

pub overflow_add-half : goal.overflow_add-half
overflow_add-half g c =
    let old : Links = g.S.Halves.kept c.args.store.now in
    let small : c.args.e < MAX_EDGES = few_edges old (g.S.Halves.kept c.loop-j.store) c.args.e (take c.loop-j.j c.args.ends) c.slots-slots.result.each (slice_get_within old.slots c.args.e [] c.requires.free) c.loop-j.invariant.store c.slots-slots.ensures.slots c.slots-slots.ensures.few in
    omega (arith, small, c.loop-j-test.true, c.requires.width.1)

pub put-requires-clause-next : goal.put-requires-clause-next
put-requires-clause-next g c =
    let old : Links = g.S.Halves.kept c.args.store.now in
    let e : ℕ = c.args.e in
    let j : ℕ = c.loop-j.j in
    let ends : List ℕ = c.args.ends in
    let wide : length ends ≡ g.row.K = search rules in
    let four : j < 4 = omega (arith, c.loop-j-test.true, c.requires.width.1) in
    let position : j < length ends = omega (arith, c.loop-j-test.true, wide) in
    let half : Half = record { vertex = get_or ends j 0; place = 4 * e + j } in
    let each : c.linked.result.each ≡ set (linked old e (take j ends)).slots e (halves_of (take (j + 1) ends)) = c.linked.ensures ∙ ap (λ s. set s e (halves_of (take (j + 1) ends))) (c.slots-slots.ensures.slots ∙ ap (λ (l : Links). l.slots) c.loop-j.invariant.store) in
    subst (λ (s : List (List (Option ℕ))). AreNext (g.S.Halves.kept c.loop-j.store).slots s half) (sym each)
    (subst (λ (l : Links). AreNext l.slots (set (linked old e (take j ends)).slots e (halves_of (take (j + 1) ends))) half) (sym c.loop-j.invariant.store)
    (linked_next old e j ends half (slice_get_within old.slots e [] c.requires.free) position (place_edge e j four) (place_position e j four) refl))

pub put-requires-clause-apart : goal.put-requires-clause-apart
put-requires-clause-apart g c =
    let old : Links = g.S.Halves.kept c.args.store.now in
    let e : ℕ = c.args.e in
    let j : ℕ = c.loop-j.j in
    let ends : List ℕ = c.args.ends in
    let wide : length ends ≡ g.row.K = search rules in
    let four : j < 4 = omega (arith, c.loop-j-test.true, c.requires.width.1) in
    let position : j < length ends = omega (arith, c.loop-j-test.true, wide) in
    subst (λ (l : Links). slot_touches (get_or ends j 0) (halves_at l.slots ((4 * e + j) / 4)) ≡ false) (sym c.loop-j.invariant.store)
    (linked_apart old e j (4 * e + j) ends (slice_get_within old.slots e [] c.requires.free) c.requires.edge.1 position (place_edge e j four))

pub loop-j-preserved : goal.loop-j-preserved
loop-j-preserved g c =
    let old : Links = g.S.Halves.kept c.args.store.now in
    let now : Links = g.S.Halves.kept c.loop-j.store in
    let e : ℕ = c.args.e in
    let j : ℕ = c.loop-j.j in
    let ends : List ℕ = c.args.ends in
    let each : c.linked.result.each ≡ set (linked old e (take j ends)).slots e (halves_of (take (j + 1) ends)) = c.linked.ensures ∙ ap (λ s. set s e (halves_of (take (j + 1) ends))) (c.slots-slots.ensures.slots ∙ ap (λ (l : Links). l.slots) c.loop-j.invariant.store) in
    record {
      end = refl;
      store = c.put.ensures.ok c.if-not-put.false ∙ (links_eq _ _ _ _ (ap (λ (l : Links). l.vertices) c.loop-j.invariant.store) each ∙ relinked old e (take j ends) (take (j + 1) ends));
      steps = omega (arith, c.tick.ensures, c.loop-j.invariant.steps);
    }

pub returns-then-not-put-clause-all : goal.returns-then-not-put-clause-all
returns-then-not-put-clause-all g c few =
    let old : Links = g.S.Halves.kept c.args.store.now in
    let e : ℕ = c.args.e in
    let j : ℕ = c.loop-j.j in
    let ends : List ℕ = c.args.ends in
    let wide : length ends ≡ g.row.K = search rules in
    let four : j < 4 = omega (arith, c.loop-j-test.true, c.requires.width.1) in
    let position : j < length ends = omega (arith, c.loop-j-test.true, wide) in
    let half : Half = record { vertex = get_or ends j 0; place = 4 * e + j } in
    let within : e < length old.slots = slice_get_within old.slots e [] c.requires.free in
    let next : AreNext (linked old e (take j ends)).slots (set (linked old e (take j ends)).slots e (halves_of (take (j + 1) ends))) half = linked_next old e j ends half within position (place_edge e j four) (place_position e j four) refl in
    let free : slot_touches half.vertex (halves_at (linked old e (take j ends)).slots (half.place / 4)) ≡ false = linked_apart old e j half.place ends within c.requires.edge.1 position (place_edge e j four) in
    let room : degree_of (linked old e (take j ends)) half.vertex < g.S.Halves.most_degree = room_at g.S.Halves.most_degree old e j ends half next free within (c.requires.edge.0 j 0 position) few in
    sym c.if-not-put.true ∙ c.put.ensures.room.1 (subst (λ l. degree_of l half.vertex < g.S.Halves.most_degree) (sym c.loop-j.invariant.store) room)
