use Rattle.std.proofs.Common.{arith, rules}
use Rattle.cm_graph.proofs.Shares.{kept_none}
use Rattle.cm_graph.proofs.wide.Wide.empty.Goals as goal

pub invariant_of-result : goal.invariant_of-result
invariant_of-result c = rw c.none.ensures (kept_none c.args.vertices c.args.edges c.in_ok-vec.field-0.items (search rules) c.requires.edges (omega (arith, c.ranges.vertices)))
