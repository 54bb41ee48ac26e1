use Rattle.std.proofs.Common.{refl}
use Rattle.std.specs.Fmt.{digits}
use Rattle.cm_shards_query.proofs.examples.worked_texts.Goals as goal

pub returns : goal.returns
unfolding digits
returns c = record { holds = refl; unknown = refl; repeated = refl; count = refl; note = refl; long = refl; magic = refl; truncated = refl; another = refl }
