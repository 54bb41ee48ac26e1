use Rattle.std.proofs.Common.{◌≡◌, ◌*◌, ℕ, length, replicate, rules, ap, ◌∙◌, arith}
use Rattle.std.proofs.lemmas.List.{length-replicate}
use Rattle.cm_graph.proofs.Chaining.{chained_none}
use Rattle.cm_graph.proofs.linked.Chains.empty.Goals as goal

pub invariant_of-result : goal.invariant_of-result
invariant_of-result c =
    let next : c.in_ok-vec-2.field-0.items ≡ replicate (4 * c.args.edges) 0 = search rules in
    let long : length c.in_ok-vec-2.field-0.items ≡ 4 * c.args.edges = ap length next ∙ length-replicate (4 * c.args.edges) (let z : ℕ = 0 in z) in
    rw c.none.ensures (chained_none c.args.vertices c.args.edges c.in_ok-vec.field-0.items c.in_ok-vec-2.field-0.items (search rules) long c.requires.edges (omega (arith, c.ranges.vertices)))
