use Rattle.std.proofs.Common.{◌≡◌, ◌/◌, ◌<◌, List, Option, ℕ, false, length, ap, refl, sym, subst, arith}
use Rattle.cm_graph_edges.specs.Graph.{Links, slot_touches}
use Rattle.cm_graph.specs.Next.{AreNext, halves_at}
use Rattle.cm_graph.proofs.Shares.{kept_more, few_degree}
use Rattle.cm_graph.proofs.Positions.{count_below}
use Rattle.cm_graph.proofs.wide.WideHalves.put.Goals as goal

pub overflow_add-vertex : goal.overflow_add-vertex
overflow_add-vertex c =
    let within : c.args.half.vertex < length c.self.inside.vertices.items = subst (λ n. c.args.half.vertex < n) (sym (ap (λ (l : Links). l.vertices) c.self.view_is)) c.requires.vertex in
    omega (arith, few_degree c.self.inside.vertices.items c.self.inside.slots.each c.args.half.vertex c.index_mut-vertex.result.now c.self.invariant within c.index_mut-vertex.ensures.value)

pub invariant_of-self : goal.invariant_of-self
invariant_of-self c =
    let slots : c.args.self.now.slots ≡ c.self.inside.slots.each = sym (ap (λ (l : Links). l.slots) c.self.view_is) in
    let within : c.args.half.vertex < length c.self.inside.vertices.items = subst (λ n. c.args.half.vertex < n) (sym (ap (λ (l : Links). l.vertices) c.self.view_is)) c.requires.vertex in
    kept_more c.self.inside.vertices.items c.self.inside.slots.each c.args.more.each c.args.half c.index_mut-vertex.result.now c.self.invariant
    (subst (λ (s : List (List (Option ℕ))). AreNext s c.args.more.each c.args.half) slots c.requires.next)
    (subst (λ (s : List (List (Option ℕ))). slot_touches c.args.half.vertex (halves_at s (c.args.half.place / 4)) ≡ false) slots c.requires.apart)
    within c.index_mut-vertex.ensures.value

pub returns-clause-room : goal.returns-clause-room
returns-clause-room c =
    let slots : c.args.self.now.slots ≡ c.self.inside.slots.each = sym (ap (λ (l : Links). l.slots) c.self.view_is) in (λ _. omega (arith, count_below c.requires.next c.requires.apart, ap length slots, c.self.invariant.few), λ _. refl)
