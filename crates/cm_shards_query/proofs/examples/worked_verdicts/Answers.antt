use Rattle.std.proofs.Common.{refl}
use Rattle.cm_shards_query.proofs.examples.worked_verdicts.Goals as goal

pub returns : goal.returns
returns c = record { holds = refl; more = refl; repeated = refl; unknown = refl; none = refl; fault_first = refl; fault_at_end = refl }
