use Rattle.std.proofs.Common.{◌≡◌, ◌<◌, List, Option, ℕ, length, ap, sym, subst}
use Rattle.cm_graph_edges.specs.Graph.{Links}
use Rattle.cm_graph.specs.Next.{AreNext}
use Rattle.cm_graph.proofs.Shares.{kept_less, some_degree}
use Rattle.cm_graph.proofs.wide.WideHalves.take_out.Goals as goal

pub overflow_sub-vertex : goal.overflow_sub-vertex
overflow_sub-vertex c =
    let slots : c.args.self.now.slots ≡ c.self.inside.slots.each = sym (ap (λ (l : Links). l.slots) c.self.view_is) in
    let within : c.args.half.vertex < length c.self.inside.vertices.items = subst (λ n. c.args.half.vertex < n) (sym (ap (λ (l : Links). l.vertices) c.self.view_is)) c.requires.vertex in
    some_degree c.self.inside.vertices.items c.args.less.each c.self.inside.slots.each c.args.half c.index_mut-vertex.result.now c.self.invariant
    (subst (λ (s : List (List (Option ℕ))). AreNext c.args.less.each s c.args.half) slots c.requires.next) within c.index_mut-vertex.ensures.value

pub invariant_of-self : goal.invariant_of-self
invariant_of-self c =
    let slots : c.args.self.now.slots ≡ c.self.inside.slots.each = sym (ap (λ (l : Links). l.slots) c.self.view_is) in
    let within : c.args.half.vertex < length c.self.inside.vertices.items = subst (λ n. c.args.half.vertex < n) (sym (ap (λ (l : Links). l.vertices) c.self.view_is)) c.requires.vertex in
    kept_less c.self.inside.vertices.items c.args.less.each c.self.inside.slots.each c.args.half c.index_mut-vertex.result.now c.self.invariant
    (subst (λ (s : List (List (Option ℕ))). AreNext c.args.less.each s c.args.half) slots c.requires.next) within c.index_mut-vertex.ensures.value
