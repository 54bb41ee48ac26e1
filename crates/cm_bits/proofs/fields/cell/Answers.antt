use Rattle.std.proofs.Common.{sym, ◌∙◌}
use Rattle.cm_bits.proofs.FieldsLemmas.{field_read}
use Rattle.cm_bits.proofs.fields.cell.Goals as goal

pub returns : goal.returns
returns c =
    c.part.ensures
    ∙ rw (c.requires.mask, c.window.ensures) (sym (field_read c.args.width c.args.i c.args.bytes.now c.requires.width c.requires.fit))
