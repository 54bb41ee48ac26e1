use Rattle.std.proofs.Common.{◌∙◌, ap, arith, length, refl}
use Rattle.std.proofs.lemmas.List.Elements.{All-nil}
use Rattle.cm_bits.specs.Held.{packed_cells}
use Rattle.cm_brz_func.specs.Functions.{IsBucket}
use Rattle.cm_brz_func.specs.Kept.{LiesIn}
use Rattle.cm_brz_func.proofs.parts.BrzParts.new.Goals as goal

pub invariant_of-result : goal.invariant_of-result
invariant_of-result c =
    rw c.new-2.ensures.items (record {
      keys = c.requires.keys;
      ratio = c.requires.ratio;
      width = c.requires.width;
      split = c.ranges.split.fits;
      count = c.new.ensures.value ∙ c.count_of.ensures.count;
      few = omega arith;
      each = All-nil (IsBucket c.args.c);
      lie = All-nil (LiesIn (packed_cells 4 4 c.empty.result.n c.empty.result.bytes.items));
      offsets = λ i inside. absurd (omega (arith, inside));
      held = refl;
      within = omega arith;
      all = λ none. absurd (omega (arith, none, c.new.ensures.value, c.count_of.ensures.some));
      short = omega (arith, ap length c.empty.ensures.cells);
    })
