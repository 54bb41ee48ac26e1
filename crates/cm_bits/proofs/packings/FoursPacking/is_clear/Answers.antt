use Rattle.std.proofs.Common.{arith, rules}
use Rattle.cm_bits.proofs.ByteLemmas.{crumbs_from}
use Rattle.cm_bits.proofs.packings.FoursPacking.is_clear.Goals as goal

pub returns : goal.returns
returns c = rw (crumbs_from c.args.byte c.args.i (omega arith) c.requires) (search rules)
