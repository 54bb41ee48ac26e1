use Rattle.std.proofs.Common.{arith, sym}
use Rattle.cm_bits.proofs.ByteLemmas.{none_from}
use Rattle.cm_bits.proofs.bytes.rare_byte_from.Goals as goal

pub returns-then-largest-low : goal.returns-then-largest-low
returns-then-largest-low c = sym (none_from c.args.bytes.now c.largest.result c.args.low c.largest.ensures (omega (arith, c.if-largest-low.true)))
