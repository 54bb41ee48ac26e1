use Rattle.cm_io.specs.WritingLaws.{writes_then, front_of_first, writes_front}
use Rattle.cm_dump.specs.Dumps.{header, bdz_ph_dump, packed_image}
use Rattle.cm_dump.specs.Forms.{version_2}
use Rattle.cm_dump.proofs.writer.save_bdz_ph.Goals as goal

pub returns-in_err-save_header-clause-bytes : goal.returns-in_err-save_header-clause-bytes
unfolding bdz_ph_dump
returns-in_err-save_header-clause-bytes g c =
    let f = c.args.bdz_ph.now in
    let part = rw (c.keys.ensures.keys, c.c.ensures.ratio, c.seed.ensures.seed) at c.in_err-save_header.ensures.bytes in
    writes_front _ _ _ _ c.from_residual.ensures.0 (front_of_first _ _ (header version_2 3 0 f.keys f.ratio f.seed) (packed_image 3 5 f.cells) part.0 part.1)

pub returns-clause-bytes : goal.returns-clause-bytes
unfolding bdz_ph_dump packed_image
returns-clause-bytes g c =
    let f = c.args.bdz_ph.now in
    let first = rw (c.keys.ensures.keys, c.c.ensures.ratio, c.seed.ensures.seed) at c.in_ok-save_header.ensures.bytes in
    let next = rw c.cells.ensures.cells at c.save_image.ensures.bytes in
    writes_then _ _ _ (header version_2 3 0 f.keys f.ratio f.seed) (packed_image 3 5 f.cells) _ first next
