use Rattle.std.proofs.Common.{rules, ◌≡◌, w32}
use Rattle.std.specs.Int.{to_le_bytes, w16}
use Rattle.cm_dump.specs.Dumps.{header}
use Rattle.cm_dump.proofs.writer.save_header.Goals as goal

pub returns-clause-bytes : goal.returns-clause-bytes
unfolding header
returns-clause-bytes g c =
    let keys : c.to_le_bytes-2.result ≡ to_le_bytes w32 c.args.keys = search rules in
    let ratio : c.to_le_bytes-3.result ≡ to_le_bytes w32 c.args.ratio = search rules in
    let seed : c.to_le_bytes-4.result ≡ to_le_bytes w32 c.args.seed = search rules in
    let b : c.to_le_bytes.result ≡ to_le_bytes w16 c.args.b = search rules in
    rw (b, keys, ratio, seed) at c.write_pieces.ensures.bytes
