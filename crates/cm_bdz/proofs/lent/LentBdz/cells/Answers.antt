use Rattle.cm_bdz.proofs.HeldLemmas.{bdz_thirds}
use Rattle.cm_bdz.proofs.lent.LentBdz.cells.Goals as goal

pub returns-clause-thirds : goal.returns-clause-thirds
returns-clause-thirds c = rw (← c.self.view_is) (bdz_thirds c.self.inside.parts c.self.invariant)
