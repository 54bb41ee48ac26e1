use Rattle.std.proofs.Common.{◌≡◌, ◌≤◌, ◌*◌, take}
use Rattle.cm_shards_manifest.specs.Manifests.{keys_in}
use Rattle.cm_spec.specs.declared.limits.TheConstants.{MAX_KEYS}
use Rattle.cm_shards_manifest.proofs.manifest.Manifest.key_total.Given as goal

abbrev pub invariant-loop-shard : goal.invariant-loop-shard
invariant-loop-shard l = record {
  sum : l.sum ≡ keys_in (take l.shard-index l.self.shards);
  few : l.sum ≤ l.shard-index * MAX_KEYS;
}
