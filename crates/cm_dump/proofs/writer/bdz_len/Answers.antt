use Rattle.std.proofs.Common.{◌≡◌, ◌≤◌, ◌∙◌, arith, ap, length}
use Rattle.cm_bits.specs.PackedLaws.{packed_room}
use Rattle.cm_bits.specs.declared.TheConstants.{MAX_CELLS}
use Rattle.cm_dump.proofs.CellLemmas.{short_dump}
use Rattle.cm_dump.proofs.writer.bdz_len.Goals as goal

pub image_len-requires-clause-room : goal.image_len-requires-clause-room
image_len-requires-clause-room c =
    let t = c.cells.result.now in
    omega (arith, c.len.ensures, packed_room 4 4 t.n t.bytes.items t.in_room)

pub returns-clause-few : goal.returns-clause-few
returns-clause-few c =
    let t = c.cells.result.now in
    let f = c.args.bdz.now in
    let same : c.len.result ≡ length f.cells = c.len.ensures ∙ ap length c.cells.ensures.cells in
    let few : length f.cells ≤ MAX_CELLS = omega (arith, c.len.ensures, same, packed_room 4 4 t.n t.bytes.items t.in_room) in
    let ranks = c.entries.ensures.cells f.cells c.ranks.ensures.stands in
    rw (c.image_len.ensures, ranks, same, c.ranks.ensures.shift) (short_dump (length f.cells) f.shift few (omega (arith, c.b.ensures.shift, c.b.ensures.within.0)))
