use Rattle.std.proofs.Common.{sym}
use Rattle.cm_bits.specs.FieldsLaws.{length-field_cells}
use Rattle.cm_bits.proofs.lent_fields.LentFieldsLookup.len.Goals as goal

pub returns : goal.returns
returns c = sym (length-field_cells _ _ _)
