use Rattle.cm_bits.proofs.ByteLemmas.{with_bit}
use Rattle.cm_bits.proofs.packings.TwosPacking.with_digit.Goals as goal

pub returns : goal.returns
returns c = with_bit c.args.byte c.args.i c.args.digit c.requires.whole c.requires.place c.requires.below
