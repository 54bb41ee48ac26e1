use Rattle.std.proofs.Common.{◌≡◌, ◌++◌, take}
use Rattle.cm_shards_manifest.specs.ManifestBytes.{shards_bytes}
use Rattle.cm_shards_manifest.proofs.writer.put_shards.Given as goal

abbrev pub invariant-loop-shard : goal.invariant-loop-shard
invariant-loop-shard l = l.file.items ≡ l.fn.file.items ++ shards_bytes (take l.shard-index l.shard-items)
