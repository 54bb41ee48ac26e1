use Rattle.std.proofs.Common.{◌∙◌, ap, sym}
use Rattle.cm_bits.specs.Fault.{packed_fault}
use Rattle.cm_bits.specs.PackedLaws.{length-packed_cells, zero_lt, IsPacked-sound, image-list}
use Rattle.cm_bits.proofs.packed.PackedCells.from_bytes.Goals as goal

pub invariant_of-result-clause-is_packed : goal.invariant_of-result-clause-is_packed
invariant_of-result-clause-is_packed g c =
    IsPacked-sound g.B.Packing.BASE g.B.Packing.PER_BYTE c.args.n c.args.bytes.items (zero_lt _ g.met.B.Packing.is_base) g.met.B.Packing.is_count
    c.requires.whole (sym (c.in_default.ensures ∙ ap (packed_fault g.B.Packing.BASE g.B.Packing.PER_BYTE c.args.n) c.deref.ensures.value))

pub returns-clause-len : goal.returns-clause-len
returns-clause-len g c = length-packed_cells _ _ _ _

pub returns-clause-image : goal.returns-clause-image
returns-clause-image g c =
    image-list g.B.Packing.BASE g.B.Packing.PER_BYTE c.args.n c.args.bytes.items
    (IsPacked-sound g.B.Packing.BASE g.B.Packing.PER_BYTE c.args.n c.args.bytes.items (zero_lt _ g.met.B.Packing.is_base) g.met.B.Packing.is_count
    c.requires.whole (sym (c.in_default.ensures ∙ ap (packed_fault g.B.Packing.BASE g.B.Packing.PER_BYTE c.args.n) c.deref.ensures.value)))
