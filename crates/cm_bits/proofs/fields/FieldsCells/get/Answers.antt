use Rattle.std.proofs.Common.{sym, ◌∙◌}
use Rattle.cm_bits.specs.FieldsLaws.{field_cells-at}
use Rattle.cm_bits.specs.Fault.{bytes_number}
use Rattle.cm_bits.proofs.FieldsLemmas.{field_inside, field_room, width-at}
use Rattle.cm_bits.proofs.fields.FieldsCells.get.Goals as goal

pub cell-requires-clause-width : goal.cell-requires-clause-width
cell-requires-clause-width c = let s = c.args.self.now in (width-at s.bound s.width s.small s.is_width).0

pub cell-requires-clause-room : goal.cell-requires-clause-room
cell-requires-clause-room c =
    let s = c.args.self.now in
    rw c.deref.ensures.value (field_room s.width s.n c.args.i s.bytes.items s.is_fields.len (field_inside s.width s.n (bytes_number s.bytes.items) c.args.i c.requires))

pub returns : goal.returns
returns c =
    let s = c.args.self.now in
    rw c.deref.ensures.value at c.cell.ensures
    ∙ sym (field_cells-at s.width s.n (bytes_number s.bytes.items) c.args.i (field_inside s.width s.n (bytes_number s.bytes.items) c.args.i c.requires))
