use Rattle.std.proofs.Common.{refl}
use Rattle.std.proofs.Math.Utf8.{encode}
use Rattle.std.specs.Str.{chars, is_utf8}
use Rattle.cm_dump_items.specs.Reading.{field_at, item_at, zeros_at}
use Rattle.cm_shards_manifest.specs.ManifestFiles.{manifest_in, signed_at}
use Rattle.cm_shards_manifest.specs.ManifestItems.{header_at, magic_at, manifest_at, name_at, rest_at, shard_at, shards_at}
use Rattle.cm_shards_manifest.proofs.examples.unsigned.Goals as goal

pub returns : goal.returns
unfolding manifest_at shards_at shard_at rest_at name_at header_at magic_at item_at field_at zeros_at is_utf8 chars encode manifest_in signed_at
returns c = record { none = refl }
