use Rattle.std.proofs.Common.{refl}
use Rattle.cm_bits.specs.PackedLaws.{length-packed_cells, image-list}
use Rattle.cm_bits.proofs.packed.Packed.image.Goals as goal

pub returns-clause-image : goal.returns-clause-image
returns-clause-image g c =
    let s = c.args.self.now in
    rw (c.deref.ensures.value, length-packed_cells g.B.Packing.BASE g.B.Packing.PER_BYTE s.n s.bytes.items) (image-list g.B.Packing.BASE g.B.Packing.PER_BYTE s.n s.bytes.items s.is_packed)

pub returns-clause-whole : goal.returns-clause-whole
returns-clause-whole g c =
    let s = c.args.self.now in
    rw (c.deref.ensures.value, length-packed_cells g.B.Packing.BASE g.B.Packing.PER_BYTE s.n s.bytes.items) s.is_packed.len

pub returns-clause-cells : goal.returns-clause-cells
returns-clause-cells g c =
    let s = c.args.self.now in
    rw (c.deref.ensures.value, length-packed_cells g.B.Packing.BASE g.B.Packing.PER_BYTE s.n s.bytes.items) refl
