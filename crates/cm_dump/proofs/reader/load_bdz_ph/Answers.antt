use Rattle.std.proofs.Common.{◌∙◌, ◌≤◌, arith, lit<, rules}
use Rattle.cm_bits.specs.Held.{packed_cells}
use Rattle.cm_bits.specs.PackedLaws.{AllBelow-packed_cells}
use Rattle.cm_dump_images.specs.ImageLaws.{packed_near}
use Rattle.cm_dump_items.specs.StepLaws.{fails_then}
use Rattle.cm_dump.specs.Spelling.{bdz_ph_at}
use Rattle.cm_dump.proofs.BodyLemmas.{bdz_ph_known}
use Rattle.cm_dump.specs.CellLaws.{few_vertices}
use Rattle.cm_dump.proofs.reader.load_bdz_ph.Goals as goal
use Rattle.cm_spec.specs.declared.limits.TheConstants.{MAX_VERTICES}

pub read_cells-requires-clause-near : goal.read_cells-requires-clause-near
read_cells-requires-clause-near g c =
    let few : c.size-n.result ≤ MAX_VERTICES = omega (arith, c.size-n.ensures.size, few_vertices c.args.header.keys c.args.header.ratio c.requires.keys.0 c.requires.keys.1 c.requires.ratio) in
    packed_near 3 5 c.size-n.result few (omega (arith, few))

pub returns-in-Err-clause-exact : goal.returns-in-Err-clause-exact
unfolding bdz_ph_at
returns-in-Err-clause-exact g c = λ x is. fails_then c.in-Err.fault _ _ (rw c.size-n.ensures.size at (c.in-Err.ensures.exact x is))

pub end-requires : goal.end-requires
end-requires g c = record { at = λ x is. let at = c.in-Ok.ensures.at x is in (rw c.image_len.ensures at.0, rw c.image_len.ensures at.1) }

pub returns-in-Ok-end-clause-exact : goal.returns-in-Ok-end-clause-exact
returns-in-Ok-end-clause-exact g c = λ x is.
    let h = c.args.header in
    let t = c.in-Ok.cells in
    let size = c.size-n.ensures.size in
    let image = rw size at (c.in-Ok.ensures.exact x is) in
    let ended = rw (c.image_len.ensures, size) at (c.in-Ok-end.ensures.exact x (c.in-Ok.ensures.told ∙ is)) in
    let f = c.from_built.ensures in
    bdz_ph_known x h (packed_cells 3 5 t.n t.bytes.items) c.from_built.result (c.in-Ok.ensures.size ∙ size) (AllBelow-packed_cells 3 5 t.n t.bytes.items (lit< tt)) image ended
    (record { keys = f.keys; ratio = f.ratio; seed = f.seed; cells = f.cells })

pub returns-in-Ok-end-clause-valid : goal.returns-in-Ok-end-clause-valid
returns-in-Ok-end-clause-valid g c =
    let t = c.in-Ok.cells in
    let f = c.from_built.ensures in
    record {
      keys = rw f.keys c.requires.keys;
      ratio = rw f.ratio c.requires.ratio;
      seed = search rules;
      size = rw (f.cells, f.keys, f.ratio) (c.in-Ok.ensures.size ∙ c.size-n.ensures.size);
      below = rw f.cells (AllBelow-packed_cells 3 5 t.n t.bytes.items (lit< tt));
    }
