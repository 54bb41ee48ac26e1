use Rattle.std.proofs.Common.{◌∙◌, ap, sym}
use Rattle.cm_bits.specs.PackedLaws.{length-packed_cells}
use Rattle.cm_spec.specs.Image.{packed_len}
use Rattle.cm_dump_brz.proofs.bucket.LentBucket.image_len.Goals as goal

pub returns : goal.returns
returns c =
    let i = c.self.inside in
    rw (← c.self.view_is) (record { len = c.self.invariant.whole ∙ ap (packed_len 4) (sym (length-packed_cells 4 4 i.n i.image.now)) })
