use Rattle.cm_io.specs.WritingLaws.{writes_then, front_of_first, writes_front}
use Rattle.cm_spec.specs.Dump.{fields_image}
use Rattle.cm_dump.specs.Dumps.{chm_dump, header}
use Rattle.cm_dump.specs.Forms.{version_2}
use Rattle.cm_dump.proofs.writer.save_chm.Goals as goal

pub returns-in_err-save_header-clause-bytes : goal.returns-in_err-save_header-clause-bytes
unfolding chm_dump
returns-in_err-save_header-clause-bytes g c =
    let f = c.args.chm.now in
    let part = rw (c.keys.ensures.keys, c.c.ensures.ratio, c.seed.ensures.seed) at c.in_err-save_header.ensures.bytes in
    writes_front _ _ _ _ c.from_residual.ensures.0 (front_of_first _ _ (header version_2 1 0 f.keys f.ratio f.seed) (fields_image f.keys f.cells) part.0 part.1)

pub returns-clause-bytes : goal.returns-clause-bytes
unfolding chm_dump fields_image
returns-clause-bytes g c =
    let f = c.args.chm.now in
    let first = rw (c.keys.ensures.keys, c.c.ensures.ratio, c.seed.ensures.seed) at c.in_ok-save_header.ensures.bytes in
    let next = rw (c.cells.ensures.bound, c.cells.ensures.cells) at c.save_image.ensures.bytes in
    writes_then _ _ _ (header version_2 1 0 f.keys f.ratio f.seed) (fields_image f.keys f.cells) _ first next
