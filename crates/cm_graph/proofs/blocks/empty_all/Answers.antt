use Rattle.std.proofs.Common.{arith}
use Rattle.cm_graph.proofs.Splitting.{linked_whole_all, none_left}
use Rattle.cm_graph.proofs.blocks.empty_all.Goals as goal

pub returns-clause-links : goal.returns-clause-links
returns-clause-links g c _ = linked_whole_all c.loop-b.invariant.split c.loop-b.invariant.first (none_left c.loop-b.buckets.items (λ i below. c.loop-b.invariant.none i (omega (arith, below, c.loop-b-test.false, c.loop-b.invariant.end))))
