use Rattle.cm_peel.specs.CoreLaws as core
use Rattle.cm_peel.proofs.laws.rest_is_core.Goals as goal

pub returns : goal.returns
returns c = core.rest_is_core
