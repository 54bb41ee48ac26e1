use Rattle.std.proofs.Common.{sym}
use Rattle.cm_bits.specs.PackedLaws.{length-packed_cells}
use Rattle.cm_bits.proofs.lent.LentDigitsLookup.len.Goals as goal

pub returns : goal.returns
returns g c = sym (length-packed_cells _ _ _ _)
