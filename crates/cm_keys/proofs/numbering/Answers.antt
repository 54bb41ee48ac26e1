use Rattle.cm_keys.proofs.NumberingLemmas.{lines_are_numbered}
use Rattle.cm_keys.proofs.numbering.Goals as goal

pub returns : goal.returns
returns c = record { numbered = lines_are_numbered }
