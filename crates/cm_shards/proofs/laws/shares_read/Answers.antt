use Rattle.cm_shards.proofs.SharesLemmas.{shares_read}
use Rattle.cm_shards.proofs.laws.shares_read.Goals as goal

pub returns : goal.returns
returns c = record { keys = shares_read }
