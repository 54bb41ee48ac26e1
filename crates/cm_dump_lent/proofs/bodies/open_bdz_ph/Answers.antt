use Rattle.std.proofs.Common.{sym, subst, lit<, rules}
use Rattle.cm_bdz.specs.Functions.{IsBdzPh}
use Rattle.cm_bits.specs.PackedLaws.{AllBelow-packed_cells, length-packed_cells}
use Rattle.cm_spec.specs.Bdz.{bdz_size}
use Rattle.cm_dump_lent.proofs.bodies.open_bdz_ph.Goals as goal

pub returns-in-Ok-lent_end-clause-valid : goal.returns-in-Ok-lent_end-clause-valid
returns-in-Ok-lent_end-clause-valid c =
    let h = c.args.header in
    let image = c.in-Ok.image.now in
    subst IsBdzPh (sym c.new.ensures.function) (record {
      keys = c.requires.keys;
      ratio = c.requires.ratio;
      seed = search rules;
      size = length-packed_cells 3 5 (bdz_size h.keys h.ratio) image;
      below = AllBelow-packed_cells 3 5 (bdz_size h.keys h.ratio) image (lit< tt);
    })
