use Rattle.std.proofs.Common.{arith, ap, ◌∙◌}
use Rattle.std.proofs.lemmas.List.{get_or_read}
use Rattle.cm_spec.specs.Image.{packed_len}
use Rattle.cm_bits.specs.PackedLaws.{length-packed_cells}
use Rattle.cm_bits.proofs.packed.PackedCells.byte.Goals as goal

pub index-requires : goal.index-requires
index-requires g c =
    let s = c.args.self.now in
    let e = ap (packed_len g.B.Packing.PER_BYTE) (length-packed_cells g.B.Packing.BASE g.B.Packing.PER_BYTE s.n s.bytes.items) in
    omega (arith, s.is_packed.len, e)

pub returns : goal.returns
returns g c =
    let s = c.args.self.now in
    let e = ap (packed_len g.B.Packing.PER_BYTE) (length-packed_cells g.B.Packing.BASE g.B.Packing.PER_BYTE s.n s.bytes.items) in
    get_or_read s.bytes.items c.args.i c.index.result.now (omega (arith, s.is_packed.len, e)) c.index.ensures 0
    ∙ s.is_packed.image c.args.i (omega (arith, s.is_packed.len, e))
