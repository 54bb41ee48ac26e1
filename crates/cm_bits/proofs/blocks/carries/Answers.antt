use Rattle.cm_bits.proofs.CarryLemmas.{crossed}
use Rattle.cm_bits.proofs.blocks.carries.Goals as goal

pub returns : goal.returns
returns c = crossed _ _ c.args.x c.args.y
