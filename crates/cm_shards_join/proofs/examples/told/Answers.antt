use Rattle.std.proofs.Common.{refl}
use Rattle.std.specs.Fmt.{digits}
use Rattle.cm_shards_join.proofs.examples.told.Goals as goal

pub returns : goal.returns
unfolding digits
returns c = record { name = refl; kind = refl; counts = refl }
