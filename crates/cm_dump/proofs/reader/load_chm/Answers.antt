use Rattle.std.proofs.Common.{◌∙◌, ℕ, List, arith}
use Rattle.cm_bits.specs.Bound.{AllBelow}
use Rattle.cm_bits.specs.Fault.{bytes_number, field_cells}
use Rattle.cm_dump_images.specs.ImageLaws.{cells_near}
use Rattle.cm_dump_items.specs.StepLaws.{fails_then}
use Rattle.cm_dump.proofs.BodyLemmas.{chm_known}
use Rattle.cm_dump.specs.CellLaws.{few_cells}
use Rattle.cm_dump.specs.Spelling.{chm_at}
use Rattle.cm_dump.proofs.reader.load_chm.Goals as goal

pub read_cells-requires-clause-room : goal.read_cells-requires-clause-room
read_cells-requires-clause-room g c =
    let few = few_cells c.args.header.keys c.args.header.ratio c.requires.keys.0 c.requires.keys.1 c.requires.ratio in
    cells_near c.args.header.keys c.size-n.result (omega (arith, c.requires.keys.1)) (omega (arith, c.size-n.ensures.size, few))

pub returns-in-Err-clause-exact : goal.returns-in-Err-clause-exact
unfolding chm_at
returns-in-Err-clause-exact g c = λ x is. fails_then c.in-Err.fault _ _ (rw c.size-n.ensures.size at (c.in-Err.ensures.exact x is))

pub end-requires : goal.end-requires
end-requires g c = record { at = λ x is. let at = c.in-Ok.ensures.at x is in (rw c.image_len.ensures at.0, rw c.image_len.ensures at.1) }

pub returns-in-Ok-end-clause-exact : goal.returns-in-Ok-end-clause-exact
returns-in-Ok-end-clause-exact g c = λ x is.
    let h = c.args.header in
    let t = c.in-Ok.cells in
    let xs : List ℕ = field_cells t.width t.n (bytes_number t.bytes.items) in
    let size = c.size-n.ensures.size in
    let image = rw size at (c.in-Ok.ensures.exact x is) in
    let ended = rw (c.image_len.ensures, size) at (c.in-Ok-end.ensures.exact x (c.in-Ok.ensures.told ∙ is)) in
    let below : AllBelow h.keys xs = rw c.in-Ok.ensures.bound at t.in_bound in
    let f = c.from_built.ensures in
    chm_known x h xs c.from_built.result c.requires.keys.1 (c.in-Ok.ensures.size ∙ size) below image ended (record { keys = f.keys; ratio = f.ratio; seed = f.seed; cells = f.cells })
