use Rattle.std.proofs.Common.{◌≡◌, ◌/◌, ◌<◌, List, Option, ℕ, false, length, ap, refl, sym, subst, arith}
use Rattle.std.proofs.lemmas.List.Sums.{count_by-le-length}
use Rattle.cm_graph_edges.specs.Graph.{Links, slot_touches}
use Rattle.cm_graph.specs.Next.{AreNext, halves_at}
use Rattle.cm_graph.proofs.Positions.{apart_more, count_below}
use Rattle.cm_graph.proofs.Chaining.{chained_more, degree_is}
use Rattle.cm_graph.proofs.linked.ChainsHalves.put.Goals as goal

pub overflow_add-chain : goal.overflow_add-chain
overflow_add-chain c =
    let within : c.args.half.vertex < length c.self.inside.chains.items = subst (λ n. c.args.half.vertex < n) (sym (ap (λ (l : Links). l.vertices) c.self.view_is)) c.requires.vertex in
    omega (arith, degree_is c.self.invariant c.args.half.vertex c.index_mut-chain.result.now within c.index_mut-chain.ensures.value, count_by-le-length (slot_touches c.args.half.vertex) c.self.inside.slots.each, c.self.invariant.few)

pub invariant_of-self : goal.invariant_of-self
invariant_of-self c =
    let slots : c.args.self.now.slots ≡ c.self.inside.slots.each = sym (ap (λ (l : Links). l.slots) c.self.view_is) in
    let within : c.args.half.vertex < length c.self.inside.chains.items = subst (λ n. c.args.half.vertex < n) (sym (ap (λ (l : Links). l.vertices) c.self.view_is)) c.requires.vertex in
    let next : AreNext c.self.inside.slots.each c.args.more.each c.args.half = subst (λ (s : List (List (Option ℕ))). AreNext s c.args.more.each c.args.half) slots c.requires.next in
    let free : slot_touches c.args.half.vertex (halves_at c.self.inside.slots.each (c.args.half.place / 4)) ≡ false = subst (λ (s : List (List (Option ℕ))). slot_touches c.args.half.vertex (halves_at s (c.args.half.place / 4)) ≡ false) slots c.requires.apart in
    chained_more c.args.half c.self.inside.slots.each c.args.more.each c.self.inside.chains.items c.self.inside.next.items c.index_mut-chain.result.now next (apart_more next c.self.invariant.apart free) c.self.invariant within c.index_mut-chain.ensures.value

pub returns-clause-room : goal.returns-clause-room
returns-clause-room c =
    let slots : c.args.self.now.slots ≡ c.self.inside.slots.each = sym (ap (λ (l : Links). l.slots) c.self.view_is) in (λ _. omega (arith, count_below c.requires.next c.requires.apart, ap length slots, c.self.invariant.few), λ _. refl)
