use Rattle.std.proofs.Common.{◌≡◌, ◌/◌, ◌<◌, List, Option, ℕ, false, length, ap, refl, sym, subst, arith}
use Rattle.std.proofs.lemmas.Bool.{false≢true}
use Rattle.cm_graph_edges.specs.Graph.{Links, degree_of, slot_touches}
use Rattle.cm_graph.specs.Next.{AreNext, halves_at}
use Rattle.cm_graph.proofs.Words.{words_more, word_degree_is, xor_small, xor_whole, small_place}
use Rattle.cm_graph.proofs.narrow.NarrowHalves.put.Goals as goal

pub overflow_add-word : goal.overflow_add-word
overflow_add-word c =
    let slots : c.args.self.now.slots ≡ c.self.inside.slots.each = sym (ap (λ (l : Links). l.slots) c.self.view_is) in
    let next : AreNext c.self.inside.slots.each c.args.more.each c.args.half = subst (λ (s : List (List (Option ℕ))). AreNext s c.args.more.each c.args.half) slots c.requires.next in
    let w : ℕ = c.index-word.result.now in
    let small : c.args.half.place < 67108864 = small_place next c.self.invariant.1 in
    omega (arith, xor_whole w c.args.half.place small, xor_small w c.args.half.place small, c.if-word-ge-MOST_DEGREE.false)

pub invariant_of-self : goal.invariant_of-self
invariant_of-self c =
    let slots : c.args.self.now.slots ≡ c.self.inside.slots.each = sym (ap (λ (l : Links). l.slots) c.self.view_is) in
    let within : c.args.half.vertex < length c.self.inside.words.items = subst (λ n. c.args.half.vertex < n) (sym (ap (λ (l : Links). l.vertices) c.self.view_is)) c.requires.vertex in
    words_more c.self.inside.words.items c.self.inside.slots.each c.args.more.each c.args.half c.index-word.result.now c.self.invariant.0 c.self.invariant.1
    (subst (λ (s : List (List (Option ℕ))). AreNext s c.args.more.each c.args.half) slots c.requires.next)
    (subst (λ (s : List (List (Option ℕ))). slot_touches c.args.half.vertex (halves_at s (c.args.half.place / 4)) ≡ false) slots c.requires.apart)
    within c.index-word.ensures

pub returns-then-word-ge-MOST_DEGREE-clause-room : goal.returns-then-word-ge-MOST_DEGREE-clause-room
returns-then-word-ge-MOST_DEGREE-clause-room c =
    let degree : c.index-word.result.now / 67108864 ≡ degree_of c.args.self.now c.args.half.vertex = word_degree_is c.args.self.now c.self.inside.words.items c.self.inside.slots.each c.args.half.vertex c.index-word.result.now c.self.view_is c.self.invariant.0 c.requires.vertex c.index-word.ensures in
    (λ h. absurd (false≢true h), λ few. let z : ⊥ = omega (arith, few, degree, c.if-word-ge-MOST_DEGREE.true) in absurd z)

pub returns-clause-room : goal.returns-clause-room
returns-clause-room c =
    let degree : c.index-word.result.now / 67108864 ≡ degree_of c.args.self.now c.args.half.vertex = word_degree_is c.args.self.now c.self.inside.words.items c.self.inside.slots.each c.args.half.vertex c.index-word.result.now c.self.view_is c.self.invariant.0 c.requires.vertex c.index-word.ensures in
    (λ _. omega (arith, degree, c.if-word-ge-MOST_DEGREE.false), λ _. refl)
