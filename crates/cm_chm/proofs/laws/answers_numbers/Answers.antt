use Rattle.cm_chm.proofs.NumberingLemmas as numbering
use Rattle.cm_chm.proofs.laws.answers_numbers.Goals as goal

pub returns : goal.returns
returns c = numbering.answers_numbers c.requires.solve
