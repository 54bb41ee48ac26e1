use Rattle.cm_bits.specs.Held.{AreBelow}
use Rattle.cm_bits.proofs.lent_fields.lent_bad_cell.Given as goal

abbrev pub invariant-loop-i : goal.invariant-loop-i
invariant-loop-i l = AreBelow l.width l.bound l.bytes l.i
