use Rattle.std.proofs.Common.{◌≡◌, List, [], Option, ℕ, map, replicate, rules, arith, ap, ◌∙◌}
use Rattle.std.proofs.lemmas.List.{length-replicate}
use Rattle.cm_graph.specs.Kept.{vertex_of}
use Rattle.cm_graph.proofs.Shares.{kept_none}
use Rattle.cm_graph.proofs.Words.{words_none}
use Rattle.cm_graph.proofs.narrow.Narrow.empty.Goals as goal

pub invariant_of-result : goal.invariant_of-result
invariant_of-result c =
    let words : c.in_ok-vec.field-0.items ≡ replicate c.args.vertices 0 = search rules in
    rw c.none.ensures (
      kept_none c.args.vertices c.args.edges (map vertex_of c.in_ok-vec.field-0.items) (ap (map vertex_of) words ∙ words_none c.args.vertices) (omega (arith, c.requires.edges)) (omega (arith, c.ranges.vertices)),
      omega (arith, c.requires.edges, length-replicate c.args.edges (let z : List (Option ℕ) = [] in z)),
    )
