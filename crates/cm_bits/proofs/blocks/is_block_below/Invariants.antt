use Rattle.std.proofs.Common.{◌-◌, ◌^◌}
use Rattle.cm_bits.proofs.CarryLemmas.{HasCarries}
use Rattle.cm_bits.proofs.blocks.is_block_below.Given as goal

abbrev pub invariant-loop-g : goal.invariant-loop-g
invariant-loop-g l = HasCarries l.fn.held l.fn.width (2 ^ l.fn.width - l.fn.bound) l.fn.first l.g l.found
