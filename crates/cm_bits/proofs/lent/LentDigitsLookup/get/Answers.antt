use Rattle.std.proofs.Common.{refl}
use Rattle.cm_bits.specs.PackedLaws.{packed_cells-at}
use Rattle.cm_bits.proofs.PackedLemmas.{cell_inside, byte_there}
use Rattle.cm_bits.proofs.lent.LentDigitsLookup.get.Goals as goal

pub bounds-self-i : goal.bounds-self-i
bounds-self-i g c =
    let s = c.args.self.now in
    rw c.PER_BYTE-per_byte.ensures (byte_there g.B.Packing.BASE g.B.Packing.PER_BYTE s.n c.args.i s.bytes.now g.met.B.Packing.is_count s.is_whole c.requires)

pub returns : goal.returns
returns g c =
    let s = c.args.self.now in
    let inside = cell_inside g.B.Packing.BASE g.B.Packing.PER_BYTE s.n c.args.i s.bytes.now c.requires in
    rw (c.digit.ensures, c.PER_BYTE-per_byte.ensures, packed_cells-at g.B.Packing.BASE g.B.Packing.PER_BYTE s.n s.bytes.now c.args.i inside) refl
