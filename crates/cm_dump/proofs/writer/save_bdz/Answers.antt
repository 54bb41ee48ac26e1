use Rattle.std.proofs.Common.{◌≡◌, ◌++◌}
use Rattle.cm_io.specs.WritingLaws.{writes_then, front_of_first, writes_front}
use Rattle.cm_rank.specs.Ranks.{sampled}
use Rattle.cm_dump.specs.Dumps.{header, bdz_dump, packed_image, ranks_image}
use Rattle.cm_dump.specs.Forms.{version_2}
use Rattle.cm_dump.proofs.writer.save_bdz.Goals as goal

pub returns-in_err-save_header-clause-bytes : goal.returns-in_err-save_header-clause-bytes
unfolding bdz_dump
returns-in_err-save_header-clause-bytes g c =
    let f = c.args.bdz.now in
    let part = rw (c.b.ensures.shift, c.keys.ensures.keys, c.c.ensures.ratio, c.seed.ensures.seed) at c.in_err-save_header.ensures.bytes in
    writes_front _ _ _ _ c.from_residual.ensures.0 (front_of_first _ _ (header version_2 2 f.shift f.keys f.ratio f.seed) (packed_image 4 4 f.cells ++ ranks_image (sampled 3 f.shift f.cells)) part.0 part.1)

pub returns-in_err-save_image-clause-bytes : goal.returns-in_err-save_image-clause-bytes
unfolding bdz_dump packed_image
returns-in_err-save_image-clause-bytes g c =
    let f = c.args.bdz.now in
    let first = rw (c.b.ensures.shift, c.keys.ensures.keys, c.c.ensures.ratio, c.seed.ensures.seed) at c.in_ok-save_header.ensures.bytes in
    let part = rw c.cells.ensures.cells at c.in_err-save_image.ensures.bytes in
    let rest = writes_front _ _ _ _ c.from_residual-in_err-save_image.ensures.0 (front_of_first _ _ (packed_image 4 4 f.cells) (ranks_image (sampled 3 f.shift f.cells)) part.0 part.1) in
    writes_then _ _ _ (header version_2 2 f.shift f.keys f.ratio f.seed) (packed_image 4 4 f.cells ++ ranks_image (sampled 3 f.shift f.cells)) _ first rest

pub returns-clause-bytes : goal.returns-clause-bytes
unfolding bdz_dump packed_image
returns-clause-bytes g c =
    let f = c.args.bdz.now in
    let first = rw (c.b.ensures.shift, c.keys.ensures.keys, c.c.ensures.ratio, c.seed.ensures.seed) at c.in_ok-save_header.ensures.bytes in
    let image = rw c.cells.ensures.cells at c.in_ok-save_image.ensures.bytes in
    let ranks : c.ranks.result.now.ranks ≡ sampled 3 f.shift f.cells = rw (c.ranks.ensures.idle, c.ranks.ensures.shift) at c.ranks.ensures.stands in
    let last = rw ranks at c.save_ranks.ensures.bytes in
    let rest = writes_then _ _ _ (packed_image 4 4 f.cells) (ranks_image (sampled 3 f.shift f.cells)) _ image last in
    writes_then _ _ _ (header version_2 2 f.shift f.keys f.ratio f.seed) (packed_image 4 4 f.cells ++ ranks_image (sampled 3 f.shift f.cells)) _ first rest
