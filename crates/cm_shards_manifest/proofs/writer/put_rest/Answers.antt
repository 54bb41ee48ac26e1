use Rattle.std.proofs.Common.{◌≡◌, rules, w32, w64}
use Rattle.std.specs.Int.{to_le_bytes}
use Rattle.cm_shards_manifest.specs.ManifestBytes.{rest_bytes}
use Rattle.cm_shards_manifest.proofs.PieceLemmas.{five_pieces}
use Rattle.cm_shards_manifest.proofs.writer.put_rest.Goals as goal

pub returns : goal.returns
unfolding rest_bytes
returns c =
    let s = c.args.shard.now in
    let keys : c.to_le_bytes.result ≡ to_le_bytes w32 s.keys = search rules in
    let span : c.to_le_bytes-2.result ≡ to_le_bytes w32 s.span = search rules in
    let offset : c.to_le_bytes-3.result ≡ to_le_bytes w64 s.offset = search rules in
    let len : c.to_le_bytes-4.result ≡ to_le_bytes w64 s.len = search rules in
    record {
      bytes = five_pieces c.args.file.now.items _ _ _ _ _ (to_le_bytes w32 s.keys) (to_le_bytes w32 s.span) (to_le_bytes w64 s.offset) (to_le_bytes w64 s.len) s.digest
          (rw keys at c.in_ok-extend_from_slice.ensures.items) (rw span at c.in_ok-extend_from_slice-2.ensures.items) (rw offset at c.in_ok-extend_from_slice-3.ensures.items) (rw len at c.in_ok-extend_from_slice-4.ensures.items) c.in_ok-extend_from_slice-5.ensures.items;
    }
