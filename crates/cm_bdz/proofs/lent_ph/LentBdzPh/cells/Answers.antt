use Rattle.cm_bdz.proofs.HeldLemmas.{bdz_ph_few, bdz_ph_thirds}
use Rattle.cm_bdz.proofs.lent_ph.LentBdzPh.cells.Goals as goal

pub returns-clause-thirds : goal.returns-clause-thirds
returns-clause-thirds c = rw (← c.self.view_is) (bdz_ph_thirds c.self.inside.parts c.self.invariant)

pub returns-clause-few : goal.returns-clause-few
returns-clause-few c = rw (← c.self.view_is) (bdz_ph_few c.self.inside.parts c.self.invariant)
