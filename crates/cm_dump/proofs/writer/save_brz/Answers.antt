use Rattle.cm_io.specs.WritingLaws.{writes_then, front_of_first, writes_front}
use Rattle.cm_dump.specs.Dumps.{header, brz_dump, buckets_image}
use Rattle.cm_dump.specs.Forms.{version_2}
use Rattle.cm_dump.proofs.writer.save_brz.Goals as goal

pub returns-in_err-save_header-clause-bytes : goal.returns-in_err-save_header-clause-bytes
unfolding brz_dump
returns-in_err-save_header-clause-bytes g c =
    let f = c.args.brz.now in
    let part = rw (c.b.ensures.width, c.keys.ensures.keys, c.c.ensures.ratio, c.split.ensures.split) at c.in_err-save_header.ensures.bytes in
    writes_front _ _ _ _ c.from_residual.ensures.0 (front_of_first _ _ (header version_2 4 f.width f.keys f.ratio f.split) (buckets_image version_2 f.buckets) part.0 part.1)

pub returns-clause-bytes : goal.returns-clause-bytes
unfolding brz_dump
returns-clause-bytes g c =
    let f = c.args.brz.now in
    let first = rw (c.b.ensures.width, c.keys.ensures.keys, c.c.ensures.ratio, c.split.ensures.split) at c.in_ok-save_header.ensures.bytes in
    writes_then _ _ _ (header version_2 4 f.width f.keys f.ratio f.split) (buckets_image version_2 f.buckets) _ first c.save_buckets.ensures.bytes
