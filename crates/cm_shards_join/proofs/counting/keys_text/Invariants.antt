use Rattle.std.proofs.Common.{◌≡◌, take}
use Rattle.cm_shards_join.specs.Taking.{keys_text}
use Rattle.cm_shards_join.proofs.counting.keys_text.Given as goal

abbrev pub invariant-loop-shard : goal.invariant-loop-shard
invariant-loop-shard l = l.text.items ≡ keys_text (take l.shard-index l.shards)
