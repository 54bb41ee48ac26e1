use Rattle.std.proofs.Common.{refl}
use Rattle.std.specs.Fmt.{digits}
use Rattle.std.specs.Path.{path_join}
use Rattle.cm_shards_split.proofs.examples.worked_names.Goals as goal

pub returns : goal.returns
unfolding digits path_join
returns c = record { first = refl; last = refl; counts = refl; text = refl }
