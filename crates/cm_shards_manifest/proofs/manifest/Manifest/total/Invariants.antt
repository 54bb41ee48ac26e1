use Rattle.std.proofs.Common.{◌≡◌, ◌≤◌, ◌*◌, take}
use Rattle.cm_shards_manifest.specs.Manifests.{spans}
use Rattle.cm_spec.specs.declared.limits.TheConstants.{MAX_VERTICES}
use Rattle.cm_shards_manifest.proofs.manifest.Manifest.total.Given as goal

abbrev pub invariant-loop-shard : goal.invariant-loop-shard
invariant-loop-shard l = record {
  sum : l.sum ≡ spans (take l.shard-index l.self.shards);
  few : l.sum ≤ l.shard-index * MAX_VERTICES;
}
