use Rattle.cm_shards_query.proofs.TakingLemmas.{said_of_none}
use Rattle.cm_shards_query.proofs.batch.Batch.reads_next.Goals as goal

pub returns-then-is_last-clause-reads : goal.returns-then-is_last-clause-reads
returns-then-is_last-clause-reads g c = λ none. (c.is_last.ensures.0 c.if-is_last.true, said_of_none c.peek.result c.is_none.result c.is_none.ensures none c.peek.ensures.none_stands)
