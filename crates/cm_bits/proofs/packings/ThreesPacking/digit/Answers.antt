use Rattle.std.proofs.Common.{arith}
use Rattle.cm_bits.proofs.ByteLemmas.{trit_is}
use Rattle.cm_bits.proofs.packings.ThreesPacking.digit.Goals as goal

pub returns : goal.returns
returns c = rw c.digits_of.ensures (trit_is c.args.byte c.args.i (omega arith) c.requires)
