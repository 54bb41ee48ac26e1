use Rattle.std.proofs.Common.{◌∙◌, ◌*◌, ap, sym}
use Rattle.cm_bdz.proofs.HeldLemmas.{bdz_ph_long}
use Rattle.cm_bdz.proofs.lent_ph.LentBdzPh.third.Goals as goal

pub returns-clause-third : goal.returns-clause-third
returns-clause-third c = rw (← c.self.view_is) (bdz_ph_long c.self.inside.parts ∙ ap (λ n. 3 * n) (sym c.again.ensures.value))
