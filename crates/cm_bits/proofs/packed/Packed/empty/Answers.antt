use Rattle.std.proofs.Common.{rules}
use Rattle.cm_bits.specs.Held.{packed_cells}
use Rattle.cm_bits.proofs.packed.Packed.empty.Goals as goal

pub returns : goal.returns
unfolding packed_cells
returns g c = search rules
