use Rattle.std.proofs.Common.{rules, ◌≡◌, length, w32}
use Rattle.std.specs.Int.{to_le_bytes}
use Rattle.cm_store_file.specs.Headers.{header_bytes}
use Rattle.cm_store_file.specs.StoreFiles.{index_bytes}
use Rattle.cm_store_file.proofs.writer.save_header.Goals as goal

pub returns-clause-bytes : goal.returns-clause-bytes
unfolding header_bytes
returns-clause-bytes g c =
    let s = c.args.store.now in
    let index : c.to_le_bytes.result ≡ to_le_bytes w32 (length (index_bytes s.index)) = rw (← c.index.ensures.index, ← c.bdz_len-index.ensures.length) (search rules) in
    let records : c.to_le_bytes-2.result ≡ to_le_bytes w32 (length s.bytes) = rw (← c.bytes.ensures.bytes) (search rules) in
    rw (index, records) at c.write_pieces.ensures.bytes
