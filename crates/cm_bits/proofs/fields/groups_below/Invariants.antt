use Rattle.std.proofs.Common.{◌*◌}
use Rattle.cm_bits.specs.Held.{AreBelow}
use Rattle.cm_bits.proofs.fields.groups_below.Given as goal

abbrev pub invariant-loop-g : goal.invariant-loop-g
invariant-loop-g l = AreBelow l.width l.bound l.held (8 * l.g)
