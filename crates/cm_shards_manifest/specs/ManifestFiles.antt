-- The manifest that bytes are the file of, or their first fault.
use Rattle.std.specs.Prelude.{ℕ, ◌+◌, List, take, nat_eq, Result, Ok, Err, if◌then◌else◌}
use Rattle.std.specs.Cmp.Lexicographic.{pointwise}
use Rattle.sha2.specs.Sha256.{sha256}
use Rattle.cm_dump_items.specs.Reading.{end_at, item_at}
use Rattle.cm_shards_manifest.specs.ManifestBytes.{shards_len}
use Rattle.cm_shards_manifest.specs.ManifestItems.{manifest_at}
use Rattle.cm_shards_manifest.specs.Manifests.{Manifest}
use Rattle.cm_shards_manifest.specs.Steps.{◌>>=◌, lifted}
use Rattle.cm_shards_manifest.specs.declared.fault.ManifestFault.{ManifestFault}
use Rattle.cm_shards_manifest.specs.declared.fault.ManifestFault.TheVariants.{BadDigest}
use Rattle.cm_shards_manifest.specs.declared.header.TheConstants.{HEADER_LEN}

-- where the digest of a manifest begins
abbrev pub digest_place : Manifest → ℕ
digest_place m = HEADER_LEN + shards_len m.shards

-- this digest, at an offset, is that of the bytes before it
abbrev pub digest_unless : List ℕ → ℕ → List ℕ → Result (Unit {0}) ManifestFault
digest_unless bytes at digest = if pointwise nat_eq digest (sha256 (take at bytes)) then Ok tt else Err (BadDigest at)

-- the digest at an offset is that of the bytes before it, and nothing follows it
unfoldable pub signed_at : List ℕ → ℕ → Result (Unit {0}) ManifestFault
signed_at bytes at = do
  digest ← lifted (item_at bytes at 32)
  same ← digest_unless bytes at digest
  lifted (end_at bytes (at + 32))

-- the manifest whose file the bytes are, or their first fault
unfoldable pub manifest_in : List ℕ → Result Manifest ManifestFault
manifest_in bytes = do
  m ← lifted (manifest_at bytes)
  signed ← signed_at bytes (digest_place m)
  Ok m
