use Rattle.std.proofs.Common.{refl}
use Rattle.cm_bits.specs.PackedLaws.{length-packed_cells}
use Rattle.cm_bits.proofs.lent.LentDigits.bytes.Goals as goal

pub returns-clause-whole : goal.returns-clause-whole
returns-clause-whole g c =
    let s = c.args.self.now in
    rw (length-packed_cells g.B.Packing.BASE g.B.Packing.PER_BYTE s.n s.bytes.now) s.is_whole

pub returns-clause-cells : goal.returns-clause-cells
returns-clause-cells g c =
    let s = c.args.self.now in
    rw (length-packed_cells g.B.Packing.BASE g.B.Packing.PER_BYTE s.n s.bytes.now) refl
