use Rattle.std.proofs.Common.{arith}
use Rattle.cm_bits.proofs.ByteLemmas.{with_trit_lt, trit_room}
use Rattle.cm_bits.proofs.packings.ThreesPacking.with_digit.Goals as goal

pub overflow_mul-result-2 : goal.overflow_mul-result-2
overflow_mul-result-2 c =
    rw c.worth-worth.ensures (omega (arith, trit_room c.args.byte c.args.i c.args.digit c.requires.whole c.requires.place c.requires.below))

pub overflow_add-result : goal.overflow_add-result
overflow_add-result c =
    rw (c.digit.ensures, c.worth-worth.ensures) (omega (arith, with_trit_lt c.args.byte c.args.i c.args.digit c.requires.whole c.requires.place c.requires.below))

pub overflow_cast-result-2 : goal.overflow_cast-result-2
overflow_cast-result-2 c =
    rw (c.digit.ensures, c.worth-worth.ensures) (omega (arith, with_trit_lt c.args.byte c.args.i c.args.digit c.requires.whole c.requires.place c.requires.below))
