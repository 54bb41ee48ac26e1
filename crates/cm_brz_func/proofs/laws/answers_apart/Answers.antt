use Rattle.cm_brz_func.proofs.ApartLemmas.{apart_in_all}
use Rattle.cm_brz_func.proofs.laws.answers_apart.Goals as goal

pub returns : goal.returns
returns c = record { brz = apart_in_all }
