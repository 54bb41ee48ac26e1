use Rattle.cm_peel.specs.CoreLaws as core
use Rattle.cm_peel.proofs.laws.empty_rest.Goals as goal

pub returns : goal.returns
returns c = record { core = core.empty_core; rest = core.empty_rest }
