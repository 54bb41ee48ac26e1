use Rattle.std.proofs.Common.{◌^◌}
use Rattle.cm_io.specs.WritingLaws.{writes_then, front_of_first, writes_front}
use Rattle.cm_spec.specs.Dump.{fields_image}
use Rattle.cm_filter_file.specs.FilterFiles.{filter_bytes, header_bytes}
use Rattle.cm_filter_file.proofs.writer.save_filter.Goals as goal

pub returns-in_err-save_header-clause-bytes : goal.returns-in_err-save_header-clause-bytes
unfolding filter_bytes
returns-in_err-save_header-clause-bytes g c =
    let f = c.args.filter.now in
    let part = c.in_err-save_header.ensures.bytes in
    writes_front _ _ _ _ c.from_residual.ensures.0 (front_of_first _ _ (header_bytes f) (fields_image (2 ^ f.bits) f.cells) part.0 part.1)

pub returns-clause-bytes : goal.returns-clause-bytes
unfolding filter_bytes fields_image
returns-clause-bytes g c =
    let f = c.args.filter.now in
    let next = rw (c.cells.ensures.bound, c.cells.ensures.cells) at c.save_image.ensures.bytes in
    writes_then _ _ _ (header_bytes f) (fields_image (2 ^ f.bits) f.cells) _ c.in_ok-save_header.ensures.bytes next
