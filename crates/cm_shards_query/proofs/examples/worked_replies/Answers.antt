use Rattle.std.proofs.Common.{refl}
use Rattle.std.specs.Fmt.{digits}
use Rattle.cm_shards_query.proofs.examples.worked_replies.Goals as goal

pub returns : goal.returns
unfolding digits
returns c = record { all = refl; unknown = refl; long = refl }
