use Rattle.std.proofs.Common.{◌∙◌, ◌^◌, ℕ, List}
use Rattle.cm_bits.specs.Bound.{AllBelow}
use Rattle.cm_bits.specs.Fault.{bytes_number, field_cells}
use Rattle.cm_dump_images.specs.Images.{fields_at}
use Rattle.cm_dump_items.specs.StepLaws.{fails_then}
use Rattle.cm_spec.specs.Bdz.{bdz_size}
use Rattle.cm_filter_file.specs.FilterFiles.{cells_at}
use Rattle.cm_filter_file.proofs.CellLemmas.{cells_known}
use Rattle.cm_filter_file.proofs.WidthLemmas.{cells_kind}
use Rattle.cm_filter_file.proofs.reader.load_cells.Goals as goal

pub returns-in-Err-clause-exact : goal.returns-in-Err-clause-exact
unfolding cells_at
returns-in-Err-clause-exact g c = λ x is.
    let h = c.args.header in
    fails_then c.in-Err.fault (fields_at x 24 (bdz_size h.keys h.ratio) (2 ^ h.w)) _ (rw (c.shape-n.ensures.size, c.shape-n.ensures.bound) at (c.in-Err.ensures.exact x is))

pub returns-in-Err-clause-kind : goal.returns-in-Err-clause-kind
returns-in-Err-clause-kind g c = cells_kind c.args.header.w c.shape-n.result.0 c.in-Err.fault c.requires.width (rw c.shape-n.ensures.bound at c.in-Err.ensures.kind)

pub end-requires : goal.end-requires
end-requires g c = record { at = λ x is. let at = c.in-Ok.ensures.at x is in (rw c.image_len.ensures at.0, rw c.image_len.ensures at.1) }

pub returns-in-Ok-end-clause-exact : goal.returns-in-Ok-end-clause-exact
returns-in-Ok-end-clause-exact g c = λ x is.
    let h = c.args.header in
    let t = c.in-Ok.cells in
    let xs : List ℕ = field_cells t.width t.n (bytes_number t.bytes.items) in
    let size = c.shape-n.ensures.size in
    let bound = c.shape-n.ensures.bound in
    let image = rw (size, bound) at (c.in-Ok.ensures.exact x is) in
    let ended = rw (c.image_len.ensures, size, bound) at (c.in-Ok-end.ensures.exact x (c.in-Ok.ensures.told ∙ is)) in
    let below : AllBelow (2 ^ h.w) xs = rw (c.in-Ok.ensures.bound, bound) at t.in_bound in
    let f = c.from_built.ensures in
    cells_known x h xs c.from_built.result c.requires.width (c.in-Ok.ensures.size ∙ size) below image ended
    (record { keys = f.keys; ratio = f.ratio; seed = f.seed; bits = f.bits; cells = f.cells })
