use Rattle.std.proofs.Common.{◌∙◌, ◌≤◌, arith, lit<}
use Rattle.cm_bits.specs.Held.{packed_cells}
use Rattle.cm_bits.specs.PackedLaws.{AllBelow-packed_cells}
use Rattle.cm_dump_images.specs.ImageLaws.{packed_near}
use Rattle.cm_dump_items.specs.StepLaws.{fails_then}
use Rattle.cm_dump.specs.Spelling.{bdz_at}
use Rattle.cm_dump.proofs.BodyLemmas.{bdz_known}
use Rattle.cm_dump.specs.CellLaws.{few_vertices}
use Rattle.cm_dump.proofs.reader.load_bdz.Goals as goal
use Rattle.cm_spec.specs.declared.limits.TheConstants.{MAX_VERTICES}

pub read_cells-requires-clause-near : goal.read_cells-requires-clause-near
read_cells-requires-clause-near g c =
    let few : c.size-n.result ≤ MAX_VERTICES = omega (arith, c.size-n.ensures.size, few_vertices c.args.header.keys c.args.header.ratio c.requires.keys.0 c.requires.keys.1 c.requires.ratio) in
    packed_near 4 4 c.size-n.result few (omega (arith, few))

pub load_ranked-requires-clause-at : goal.load_ranked-requires-clause-at
load_ranked-requires-clause-at g c = λ x is. let at = c.in-Ok.ensures.at x is in (rw c.in-Ok.ensures.size at.0, rw c.in-Ok.ensures.size at.1)

pub returns-in-Ok-clause-exact : goal.returns-in-Ok-clause-exact
returns-in-Ok-clause-exact g c = λ x is.
    let t = c.in-Ok.cells in
    let size = c.size-n.ensures.size in
    let image = rw size at (c.in-Ok.ensures.exact x is) in
    let known = bdz_known x c.args.header (packed_cells 4 4 t.n t.bytes.items) (c.in-Ok.ensures.size ∙ size) (AllBelow-packed_cells 4 4 t.n t.bytes.items (lit< tt)) image in
    rw known (c.load_ranked.ensures.exact x (c.in-Ok.ensures.told ∙ is))

pub returns-in-Err-clause-exact : goal.returns-in-Err-clause-exact
unfolding bdz_at
returns-in-Err-clause-exact g c = λ x is. fails_then c.in-Err.fault _ _ (rw c.size-n.ensures.size at (c.in-Err.ensures.exact x is))
