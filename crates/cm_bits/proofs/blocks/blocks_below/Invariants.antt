use Rattle.std.proofs.Common.{◌≤◌, ◌-◌, ◌*◌}
use Rattle.cm_bits.specs.Held.{AreBelow}
use Rattle.cm_bits.proofs.blocks.blocks_below.Given as goal

abbrev pub invariant-loop-groups : goal.invariant-loop-groups
invariant-loop-groups l = (8 * l.groups ≤ l.n) × AreBelow l.width l.bound l.held (8 * l.groups)

abbrev pub decreases-loop-groups : goal.decreases-loop-groups
decreases-loop-groups l = l.n - l.groups
