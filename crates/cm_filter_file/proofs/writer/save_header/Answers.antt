use Rattle.std.proofs.Common.{rules, ◌≡◌, w32}
use Rattle.std.specs.Int.{to_le_bytes}
use Rattle.cm_filter_file.specs.FilterFiles.{header_bytes}
use Rattle.cm_filter_file.proofs.writer.save_header.Goals as goal

pub returns-clause-bytes : goal.returns-clause-bytes
unfolding header_bytes
returns-clause-bytes g c =
    let f = c.args.filter.now in
    let keys : c.to_le_bytes.result ≡ to_le_bytes w32 f.keys = rw (← c.keys.ensures.keys) (search rules) in
    let ratio : c.to_le_bytes-2.result ≡ to_le_bytes w32 f.ratio = rw (← c.c.ensures.ratio) (search rules) in
    let seed : c.to_le_bytes-3.result ≡ to_le_bytes w32 f.seed = rw (← c.seed.ensures.seed) (search rules) in
    rw (c.w.ensures.bits, keys, ratio, seed) at c.write_pieces.ensures.bytes
