use Rattle.std.proofs.Common.{◌≡◌, ◌+◌, ◌∙◌, List, ℕ, [], get_or, sym, ap, arith, subst}
use Rattle.std.proofs.lemmas.Option.{get_or_from_slice_get}
use Rattle.cm_graph_edges.specs.Graph.{AreDegreesWithin, Links, linked}
use Rattle.cm_graph.proofs.Degrees.{within_first}
use Rattle.cm_graph.proofs.Linking.{linked_first, linked_more}
use Rattle.cm_graph.proofs.halves.link_each.Goals as goal

pub loop-e-preserved : goal.loop-e-preserved
loop-e-preserved g c =
    let edges : List (List ℕ) = c.args.edges.now.edges in
    let n : ℕ = c.args.edges.now.vertices in
    let is : c.ends.result ≡ get_or edges c.loop-e.e [] = sym (get_or_from_slice_get edges c.loop-e.e c.ends.result [] c.ends.ensures.ends) in
    record {
      end = c.len-e-end.ensures.count;
      store = c.link_edge.ensures.links c.if-not-link_edge.false ∙ (ap (λ (l : Links). linked l c.loop-e.e c.ends.result) c.loop-e.invariant.store ∙ linked_more n edges c.loop-e.e c.ends.result (omega (arith, c.loop-e-test.true, c.len-e-end.ensures.count)) is);
      steps = grind (arith, c.link_edge.ensures.steps c.if-not-link_edge.false, c.loop-e.invariant.steps);
    }

pub returns-then-not-link_edge-clause-all : goal.returns-then-not-link_edge-clause-all
returns-then-not-link_edge-clause-all g c few =
    let edges : List (List ℕ) = c.args.edges.now.edges in
    let n : ℕ = c.args.edges.now.vertices in
    let e : ℕ = c.loop-e.e in
    let is : c.ends.result ≡ get_or edges e [] = sym (get_or_from_slice_get edges e c.ends.result [] c.ends.ensures.ends) in
    let more : linked (g.S.Halves.kept c.loop-e.store) e c.ends.result ≡ linked_first n edges (e + 1) = ap (λ (l : Links). linked l e c.ends.result) c.loop-e.invariant.store ∙ linked_more n edges e c.ends.result (omega (arith, c.loop-e-test.true, c.len-e-end.ensures.count)) is in
    sym c.if-not-link_edge.true ∙ c.link_edge.ensures.all (subst (AreDegreesWithin g.S.Halves.most_degree) (sym more) (within_first g.S.Halves.most_degree n (e + 1) edges few))
