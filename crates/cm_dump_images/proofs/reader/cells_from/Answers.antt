use Rattle.std.proofs.Common.{◌∙◌, ap, refl, Ok}
use Rattle.cm_dump_images.specs.ImageLaws.{image_read}
use Rattle.cm_dump_images.proofs.reader.cells_from.Goals as goal

pub returns-in-Ok-clause-exact : goal.returns-in-Ok-clause-exact
returns-in-Ok-clause-exact g c = λ x whole.
    let made = c.in-Ok.ensures in
    image_read x c.args.at _ _ _ c.args.image.items whole (made.sound refl) ∙ ap Ok made.image
