use Rattle.cm_dump.proofs.RankLemmas.{same_rank}
use Rattle.cm_dump.proofs.ranks.first_wrong.Goals as goal

pub loop-i-preserved : goal.loop-i-preserved
loop-i-preserved c =
    same_rank c.args.part.now c.args.ranks.now.ranks c.to_le_bytes-rank.result c.args.from c.loop-i.i c.entry.result c.ne.result c.loop-i.invariant c.entry.ensures.entry c.to_le_bytes-rank.ensures c.ne.ensures c.if-ne.false
