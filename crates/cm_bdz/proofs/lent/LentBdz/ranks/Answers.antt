use Rattle.cm_bdz.proofs.HeldLemmas.{rank_there}
use Rattle.cm_bdz.proofs.lent.LentBdz.ranks.Goals as goal

pub returns-clause-there : goal.returns-clause-there
returns-clause-there c = rw (← c.self.view_is) (rank_there c.self.inside.parts c.self.invariant)
