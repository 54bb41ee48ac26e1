use Rattle.std.proofs.Common.{◌≡◌, ◌≤◌, ◌+◌, ◌*◌, ◌-◌, length}
use Rattle.cm_shards_manifest.specs.ManifestBytes.{shards_len}
use Rattle.cm_shards_manifest.specs.ManifestItems.{shards_at}
use Rattle.cm_shards_manifest.specs.Manifests.{AreShards, spans}
use Rattle.cm_shards_manifest.specs.declared.header.TheConstants.{HEADER_LEN}
use Rattle.cm_shards_manifest.specs.declared.limits.TheConstants.{MAX_NAME}
use Rattle.cm_spec.specs.declared.limits.TheConstants.{MAX_VERTICES}
use Rattle.cm_shards_manifest.proofs.ShardLemmas.{after}
use Rattle.cm_shards_manifest.proofs.reader.read_shards.Given as goal

-- the shards so far are the first of all, and those that are left begin here
abbrev pub invariant-loop : goal.invariant-loop
invariant-loop l = record {
  count : length l.shards.items ≡ l.counter;
  at : l.at ≡ HEADER_LEN + shards_len l.shards.items;
  near : l.at ≤ HEADER_LEN + l.counter * (58 + MAX_NAME);
  before : l.before ≡ spans l.shards.items;
  few : l.before ≤ l.counter * MAX_VERTICES;
  valid : AreShards 0 l.shards.items;
  left : shards_at l.file HEADER_LEN 0 l.count ≡ after l.shards.items (shards_at l.file l.at l.before (l.count - l.counter));
}
