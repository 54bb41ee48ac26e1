use Rattle.std.proofs.Common.{refl}
use Rattle.cm_shards_join.specs.Taking.{compare_counts}
use Rattle.cm_shards_join.proofs.counting.compare.Goals as goal

pub returns-in-None-clause-same : goal.returns-in-None-clause-same
unfolding compare_counts
returns-in-None-clause-same g c = λ x is. rw c.in-None.is refl
