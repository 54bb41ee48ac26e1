use Rattle.std.proofs.Common.{List, ℕ, arith, subst, sym}
use Rattle.cm_graph_edges.specs.Graph.{Links}
use Rattle.cm_graph.specs.Waiting.{AreFirst, AreSplit}
use Rattle.cm_graph.proofs.Splitting.{bare_first, bare_split, count_none}
use Rattle.cm_graph.proofs.blocks.link_blocks.Goals as goal

pub add_all-requires : goal.add_all-requires
add_all-requires g c =
    let n : ℕ = c.args.edges.now.vertices in
    let edges : List (List ℕ) = c.args.edges.now.edges in (
      omega arith,
      (
        omega (arith, c.in_ok-buckets.ensures.many, c.vertices.ensures.count),
        (
          subst (λ (l : Links). AreSplit g.row.K n edges l c.in_ok-buckets.buckets.items) (sym c.requires.none) (bare_split g.row.K n edges c.in_ok-buckets.buckets.items c.in_ok-buckets.ensures.none (omega (arith, c.len-many.ensures.width.1)) c.len-many.ensures.edges),
          subst (λ (l : Links). AreFirst g.row.K 0 l.slots c.in_ok-buckets.buckets.items) (sym c.requires.none) (bare_first g.row.K n edges c.in_ok-buckets.buckets.items c.in_ok-buckets.ensures.none),
        ),
      ),
    )

pub returns-in_err-add_all-clause-steps : goal.returns-in_err-add_all-clause-steps
returns-in_err-add_all-clause-steps g c = grind (arith, c.add_all.ensures.steps, count_none c.in_ok-buckets.buckets.items c.in_ok-buckets.ensures.none)

pub returns-then-not-branch-clause-steps : goal.returns-then-not-branch-clause-steps
returns-then-not-branch-clause-steps g c = grind (arith, c.add_all.ensures.steps, count_none c.in_ok-buckets.buckets.items c.in_ok-buckets.ensures.none)

pub returns-clause-steps : goal.returns-clause-steps
returns-clause-steps g c = grind (arith, c.add_all.ensures.steps, c.empty_all.ensures.steps, count_none c.in_ok-buckets.buckets.items c.in_ok-buckets.ensures.none)
