use Rattle.cm_bits.proofs.ByteLemmas.{with_crumb}
use Rattle.cm_bits.proofs.packings.FoursPacking.with_digit.Goals as goal

pub returns : goal.returns
returns c = with_crumb c.args.byte c.args.i c.args.digit c.requires.whole c.requires.place c.requires.below
