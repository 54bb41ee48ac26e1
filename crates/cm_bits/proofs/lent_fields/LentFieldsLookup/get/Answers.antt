use Rattle.std.proofs.Common.{sym, ◌∙◌}
use Rattle.cm_bits.specs.Fault.{bytes_number}
use Rattle.cm_bits.specs.FieldsLaws.{field_cells-at}
use Rattle.cm_bits.proofs.FieldsLemmas.{field_inside}
use Rattle.cm_bits.proofs.LentFieldsLemmas.{cell_there}
use Rattle.cm_bits.proofs.lent_fields.LentFieldsLookup.get.Goals as goal

pub lent_cell-requires-clause-room : goal.lent_cell-requires-clause-room
lent_cell-requires-clause-room c =
    let s = c.args.self.now in
    rw s.is_whole (cell_there s.width s.n c.args.i s.some (field_inside s.width s.n (bytes_number s.bytes.now) c.args.i c.requires))

pub returns : goal.returns
returns c =
    let s = c.args.self.now in
    c.lent_cell.ensures
    ∙ sym (field_cells-at s.width s.n (bytes_number s.bytes.now) c.args.i (field_inside s.width s.n (bytes_number s.bytes.now) c.args.i c.requires))
