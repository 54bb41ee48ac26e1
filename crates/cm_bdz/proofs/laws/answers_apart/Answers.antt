use Rattle.cm_bdz.proofs.NumberingLemmas.{bdz_apart, bdz_ph_apart}
use Rattle.cm_bdz.proofs.laws.answers_apart.Goals as goal

pub returns : goal.returns
returns c = record { bdz = bdz_apart c.requires.solve; bdz_ph = bdz_ph_apart c.requires.solve }
