use Rattle.std.proofs.Common.{arith}
use Rattle.cm_shards_split.specs.NamesLaws.{no_shard, same_shard}
use Rattle.cm_shards_split.proofs.laws.paths.Goals as goal

pub returns : goal.returns
returns c = record { shards = λ dir i j below below_j. same_shard dir i j (omega (arith, below)) (omega (arith, below_j)); counts = no_shard }
