use Rattle.cm_shards_query.proofs.TakingLemmas.{taken_more}
use Rattle.cm_shards_query.proofs.taking.take_next.Goals as goal

pub returns-in-None-clause-buffered : goal.returns-in-None-clause-buffered
returns-in-None-clause-buffered g c = λ key buffered. absurd (c.in-None.ensures.none_stands key buffered)

pub returns-clause-takes : goal.returns-clause-takes
returns-clause-takes g c = λ _ before taken. taken_more before _ _ c.in-Some.key.now _ _ taken c.pass.ensures.told c.pass.ensures.counts c.add.ensures.keys c.in-Some.ensures.gives
