use Rattle.std.proofs.Common.{◌∙◌, ◌/◌, ◌^◌, ℕ, ap}
use Rattle.cm_bits.specs.FieldsLaws.{width-fits}
use Rattle.cm_chm.proofs.lent.LentChm.new.Goals as goal

pub invariant_of-result : goal.invariant_of-result
invariant_of-result c =
    let fits = width-fits c.args.keys c.requires.keys.1 in
    record {
      keys = c.requires.keys;
      ratio = c.requires.ratio;
      vertices = c.size-vertices.ensures.size;
      width = rw c.width-width.ensures (fits.0, fits.1);
      keys_scaled = c.scaled-keys_scaled.ensures.scaled ∙ ap (λ (n : ℕ). 2 ^ 32 / n) c.new.ensures.value;
      vertices_scaled = c.scaled-vertices_scaled.ensures.scaled ∙ ap (λ (n : ℕ). 2 ^ 32 / n) c.new-2.ensures.value;
      cells = rw (c.width-width.ensures, c.size-vertices.ensures.size) c.requires.cells;
    }
