use Rattle.cm_shards_built.proofs.ShardLemmas.{has_shard}
use Rattle.cm_shards_built.proofs.shares_stored.Goals as goal

pub returns : goal.returns
returns c = has_shard c.files_of_a_split.ensures.shards
