use Rattle.std.proofs.Common.{◌∙◌, ℕ, arith}
use Rattle.cm_dump_images.specs.ImageLaws.{packed_near, packed_short}
use Rattle.cm_dump_images.proofs.lent.lent_packed.Goals as goal

pub placed-requires-clause-place : goal.placed-requires-clause-place
placed-requires-clause-place g c =
    let p : ℕ = g.B.Packing.PER_BYTE in
    packed_near g.B.Packing.BASE p c.args.n c.requires.n (omega (arith, packed_short p c.args.n g.met.B.Packing.is_count, c.requires.n)) c.in-Ok.image.now c.in-Err-of.fault (c.in-Ok.ensures.size ∙ c.image_len.ensures) c.in-Err-of.ensures.fault
