use Rattle.std.proofs.Common.{◌≡◌, ◌<◌, ◌∙◌, List, Option, ℕ, length, ap, sym, subst}
use Rattle.cm_graph_edges.specs.Graph.{Links}
use Rattle.cm_graph.specs.Next.{AreNext}
use Rattle.cm_graph.specs.Chained.{chain_without, next_without}
use Rattle.cm_graph.specs.declared.linked.Chain.{Chain}
use Rattle.cm_graph.proofs.Written.{written_back}
use Rattle.cm_graph.proofs.Chaining.{chained_cut, chain_all_within}
use Rattle.cm_graph.proofs.linked.ChainsHalves.take_out.Goals as goal

pub cut-requires-clause-within : goal.cut-requires-clause-within
cut-requires-clause-within c =
    let within : c.args.half.vertex < length c.self.inside.chains.items = subst (λ n. c.args.half.vertex < n) (sym (ap (λ (l : Links). l.vertices) c.self.view_is)) c.requires.vertex in
    rw c.deref_mut.ensures.value (chain_all_within c.self.invariant c.args.half.vertex c.index-chain.result.now within c.index-chain.ensures)

pub invariant_of-self : goal.invariant_of-self
invariant_of-self c =
    let slots : c.args.self.now.slots ≡ c.self.inside.slots.each = sym (ap (λ (l : Links). l.slots) c.self.view_is) in
    let within : c.args.half.vertex < length c.self.inside.chains.items = subst (λ n. c.args.half.vertex < n) (sym (ap (λ (l : Links). l.vertices) c.self.view_is)) c.requires.vertex in
    let step : AreNext c.args.less.each c.self.inside.slots.each c.args.half = subst (λ (s : List (List (Option ℕ))). AreNext c.args.less.each s c.args.half) slots c.requires.next in
    let q : ℕ = c.args.half.place in
    let x : Chain = c.index-chain.result.now in
    let next : List ℕ = c.self.inside.next.items in
    let left : List ℕ = c.cut.new.next in
    let long : length left ≡ length next = c.cut.auto.next ∙ ap length c.deref_mut.ensures.value in
    let chain : c.cut.result ≡ chain_without next x q = subst (λ ns. c.cut.result ≡ chain_without ns x q) c.deref_mut.ensures.value c.cut.ensures.chain in
    let rest : left ≡ next_without next x q = subst (λ ns. left ≡ next_without ns x q) c.deref_mut.ensures.value c.cut.ensures.next in
    rw (written_back left next c.self.inside.next.len c.self.inside.next.ok.0 long, chain, rest)
    (chained_cut c.args.half c.args.less.each c.self.inside.slots.each c.self.inside.chains.items next x step c.self.invariant within c.index-chain.ensures)
