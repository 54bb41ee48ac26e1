use Rattle.cm_shards_built.proofs.BuiltLemmas.{saves_shard}
use Rattle.cm_shards_built.proofs.built_over.Goals as goal

pub returns : goal.returns
returns c = saves_shard
