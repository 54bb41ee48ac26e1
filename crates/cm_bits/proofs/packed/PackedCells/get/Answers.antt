use Rattle.std.proofs.Common.{arith, ap, ◌/◌, ◌%◌, ◌^◌}
use Rattle.std.proofs.lemmas.List.{get_or_read}
use Rattle.cm_bits.specs.PackedLaws.{packed_cells-at}
use Rattle.cm_bits.proofs.PackedLemmas.{cell_inside, byte_there}
use Rattle.cm_bits.proofs.packed.PackedCells.get.Goals as goal

pub index-requires : goal.index-requires
index-requires g c =
    let s = c.args.self.now in
    rw c.PER_BYTE-per_byte.ensures (omega (arith, byte_there g.B.Packing.BASE g.B.Packing.PER_BYTE s.n c.args.i s.bytes.items g.met.B.Packing.is_count s.is_packed.len c.requires))

pub returns : goal.returns
returns g c =
    let s = c.args.self.now in
    let inside = cell_inside g.B.Packing.BASE g.B.Packing.PER_BYTE s.n c.args.i s.bytes.items c.requires in
    let there = byte_there g.B.Packing.BASE g.B.Packing.PER_BYTE s.n c.args.i s.bytes.items g.met.B.Packing.is_count s.is_packed.len c.requires in
    rw (c.digit.ensures, c.PER_BYTE-per_byte.ensures, packed_cells-at g.B.Packing.BASE g.B.Packing.PER_BYTE s.n s.bytes.items c.args.i inside)
    (ap (λ x. x / g.B.Packing.BASE ^ (c.args.i % g.B.Packing.PER_BYTE) % g.B.Packing.BASE)
    (get_or_read s.bytes.items (c.args.i / g.B.Packing.PER_BYTE) c.index.result.now there (rw c.PER_BYTE-per_byte.ensures at c.index.ensures) 0))
