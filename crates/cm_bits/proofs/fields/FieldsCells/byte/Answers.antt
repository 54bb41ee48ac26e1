use Rattle.std.proofs.Common.{arith, ◌∙◌}
use Rattle.std.proofs.lemmas.List.{get_or_read}
use Rattle.cm_bits.proofs.FieldsLemmas.{byte_inside, field_byte_at}
use Rattle.cm_bits.proofs.fields.FieldsCells.byte.Goals as goal

pub index-requires : goal.index-requires
index-requires c =
    let s = c.args.self.now in
    let inside = byte_inside s.bound s.width s.n c.args.i s.bytes.items s.is_width c.requires in
    omega (arith, s.is_fields.len, inside)

pub returns : goal.returns
returns c =
    let s = c.args.self.now in
    let inside = byte_inside s.bound s.width s.n c.args.i s.bytes.items s.is_width c.requires in
    get_or_read s.bytes.items c.args.i c.index.result.now (omega (arith, s.is_fields.len, inside)) c.index.ensures 0
    ∙ field_byte_at s.bound s.width s.n c.args.i s.bytes.items s.is_width s.is_fields inside
