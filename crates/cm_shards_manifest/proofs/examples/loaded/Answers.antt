use Rattle.std.proofs.Common.{refl}
use Rattle.std.proofs.Math.Utf8.{encode}
use Rattle.std.specs.Str.{chars, is_utf8}
use Rattle.cm_dump_items.specs.Reading.{field_at, item_at, zeros_at}
use Rattle.cm_shards_manifest.specs.ManifestItems.{header_at, magic_at, manifest_at, name_at, rest_at, shard_at, shards_at}
use Rattle.cm_shards_manifest.proofs.examples.loaded.Goals as goal

pub returns-clause-two : goal.returns-clause-two
unfolding manifest_at shards_at shard_at rest_at name_at header_at magic_at item_at field_at zeros_at is_utf8 chars encode
returns-clause-two c = refl

pub returns-clause-more : goal.returns-clause-more
unfolding manifest_at shards_at shard_at rest_at name_at header_at magic_at item_at field_at zeros_at is_utf8 chars encode
returns-clause-more c = refl

pub returns-clause-not_utf8 : goal.returns-clause-not_utf8
unfolding manifest_at shards_at shard_at rest_at name_at header_at magic_at item_at field_at zeros_at is_utf8 chars encode
returns-clause-not_utf8 c = refl

pub returns-clause-offset : goal.returns-clause-offset
unfolding manifest_at shards_at shard_at rest_at name_at header_at magic_at item_at field_at zeros_at is_utf8 chars encode
returns-clause-offset c = refl

pub returns-clause-cut : goal.returns-clause-cut
unfolding manifest_at shards_at shard_at rest_at name_at header_at magic_at item_at field_at zeros_at is_utf8 chars encode
returns-clause-cut c = refl
