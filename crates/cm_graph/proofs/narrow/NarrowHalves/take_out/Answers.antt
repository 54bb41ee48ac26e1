use Rattle.std.proofs.Common.{◌≡◌, ◌/◌, ◌<◌, ◌≤◌, List, Option, ℕ, length, ap, sym, subst, arith}
use Rattle.cm_graph_edges.specs.Graph.{Links}
use Rattle.cm_graph.specs.Next.{AreNext}
use Rattle.cm_graph.proofs.Positions.{long}
use Rattle.cm_graph.proofs.Words.{words_less, word_has_degree, xor_whole, small_place}
use Rattle.cm_graph.proofs.narrow.NarrowHalves.take_out.Goals as goal

pub overflow_sub-word : goal.overflow_sub-word
overflow_sub-word c =
    let slots : c.args.self.now.slots ≡ c.self.inside.slots.each = sym (ap (λ (l : Links). l.slots) c.self.view_is) in
    let within : c.args.half.vertex < length c.self.inside.words.items = subst (λ n. c.args.half.vertex < n) (sym (ap (λ (l : Links). l.vertices) c.self.view_is)) c.requires.vertex in
    let next : AreNext c.args.less.each c.self.inside.slots.each c.args.half = subst (λ (s : List (List (Option ℕ))). AreNext c.args.less.each s c.args.half) slots c.requires.next in
    let w : ℕ = c.index-word.result.now in
    let some : 1 ≤ w / 67108864 = word_has_degree c.self.inside.words.items c.args.less.each c.self.inside.slots.each c.args.half w c.self.invariant.0 next within c.index-word.ensures in
    omega (arith, xor_whole w c.args.half.place (small_place next (omega (arith, long next, c.self.invariant.1))), some)

pub invariant_of-self : goal.invariant_of-self
invariant_of-self c =
    let slots : c.args.self.now.slots ≡ c.self.inside.slots.each = sym (ap (λ (l : Links). l.slots) c.self.view_is) in
    let within : c.args.half.vertex < length c.self.inside.words.items = subst (λ n. c.args.half.vertex < n) (sym (ap (λ (l : Links). l.vertices) c.self.view_is)) c.requires.vertex in
    words_less c.self.inside.words.items c.args.less.each c.self.inside.slots.each c.args.half c.index-word.result.now c.self.invariant.0 c.self.invariant.1
    (subst (λ (s : List (List (Option ℕ))). AreNext c.args.less.each s c.args.half) slots c.requires.next) within c.index-word.ensures
