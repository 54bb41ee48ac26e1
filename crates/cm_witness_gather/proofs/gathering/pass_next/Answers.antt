use Rattle.std.proofs.Common.{refl}
use Rattle.cm_witness_gather.proofs.gathering.pass_next.Goals as goal

pub returns-in-None-clause-gives : goal.returns-in-None-clause-gives
returns-in-None-clause-gives g c = λ told is. (c.next.new.key.items, c.next.ensures.gives told is)

pub returns-clause-gives : goal.returns-clause-gives
returns-clause-gives g c = λ told is. (c.in-Some.next.now, c.pass.ensures.gives c.in-Some.next.now c.in-Some.ensures.stands refl told is)
