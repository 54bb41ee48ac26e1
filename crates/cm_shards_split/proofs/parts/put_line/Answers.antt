use Rattle.std.proofs.Common.{sym, arith}
use Rattle.cm_shards_split.proofs.Putting.{line_put, many_parts, part_few, part_there}
use Rattle.cm_shards_split.proofs.parts.put_line.Goals as goal

pub put-requires-clause-there : goal.put-requires-clause-there
put-requires-clause-there g c = part_there c.shard-k.result c.index-parts-k.result c.requires.open.stands (omega (arith, c.shard-k.ensures.below, many_parts c.requires.open.stands))

pub put-requires-clause-few : goal.put-requires-clause-few
put-requires-clause-few g c = omega (arith, c.requires.open.few, part_few c.shard-k.result c.index-parts-k.result c.requires.open.stands (omega (arith, c.shard-k.ensures.below, many_parts c.requires.open.stands)))

pub returns-clause-puts : goal.returns-clause-puts
returns-clause-puts g c = λ dir base lines stands.
    line_put _ _ c.shard-k.result c.index-parts-k.result c.put.new.part c.args.line.now c.put.result stands (omega (arith, c.shard-k.ensures.below, many_parts stands)) (sym c.shard-k.ensures.shard) c.put.ensures.puts c.put.ensures.path c.put.ensures.count
