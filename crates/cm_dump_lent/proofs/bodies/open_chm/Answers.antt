use Rattle.std.proofs.Common.{sym, subst, rules}
use Rattle.cm_bits.specs.Fault.{bytes_number}
use Rattle.cm_bits.specs.FieldsLaws.{length-field_cells}
use Rattle.cm_chm.specs.Functions.{IsChm}
use Rattle.cm_spec.specs.Chm.{chm_size}
use Rattle.cm_spec.specs.Image.{width_of}
use Rattle.cm_dump_lent.proofs.bodies.open_chm.Goals as goal

pub returns-in-Ok-lent_end-clause-valid : goal.returns-in-Ok-lent_end-clause-valid
returns-in-Ok-lent_end-clause-valid c =
    let h = c.args.header in
    subst IsChm (sym c.new.ensures.function) (record {
      keys = c.requires.keys;
      ratio = c.requires.ratio;
      seed = search rules;
      size = length-field_cells (width_of h.keys) (chm_size h.keys h.ratio) (bytes_number c.in-Ok.image.now);
      below = rw c.size-n.ensures.size at c.in-Ok.ensures.below;
    })
