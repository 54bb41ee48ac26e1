use Rattle.std.proofs.Common.{arith, rules}
use Rattle.cm_bits.proofs.ByteLemmas.{trits_from}
use Rattle.cm_bits.proofs.packings.ThreesPacking.is_clear.Goals as goal

pub returns : goal.returns
returns c = rw (c.worth.ensures, trits_from c.args.byte c.args.i (omega arith) c.requires) (search rules)
