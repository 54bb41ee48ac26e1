use Rattle.std.proofs.Common.{arith}
use Rattle.cm_bits.proofs.ByteLemmas.{crumb_is}
use Rattle.cm_bits.proofs.packings.FoursPacking.digit.Goals as goal

pub returns : goal.returns
returns c = crumb_is c.args.byte c.args.i (omega arith) c.requires
