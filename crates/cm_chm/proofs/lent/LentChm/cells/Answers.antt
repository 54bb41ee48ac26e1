use Rattle.cm_chm.proofs.HeldLemmas.{chm_sized, is_size, narrow}
use Rattle.cm_chm.proofs.lent.LentChm.cells.Goals as goal

pub returns-clause-bound : goal.returns-clause-bound
returns-clause-bound c = rw (c.new.ensures.bound) (narrow c.self.inside.parts.width c.self.invariant.width.1)

pub returns-clause-size : goal.returns-clause-size
returns-clause-size c = rw (← c.self.view_is) (chm_sized c.self.inside.parts c.self.invariant)

pub returns-clause-vertices : goal.returns-clause-vertices
returns-clause-vertices c = rw (← c.self.view_is) (is_size c.self.inside.parts c.self.invariant)
