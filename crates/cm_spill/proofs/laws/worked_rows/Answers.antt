use Rattle.std.proofs.Common.{refl}
use Rattle.cm_spill.specs.Records.{encoded}
use Rattle.cm_spill.proofs.laws.worked_rows.Goals as goal

pub returns : goal.returns
unfolding encoded
returns c = record { two = refl }
