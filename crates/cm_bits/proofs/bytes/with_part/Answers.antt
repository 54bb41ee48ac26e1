use Rattle.std.proofs.Common.{arith, ◌+◌, ◌-◌, ◌*◌, ◌/◌, ◌%◌, ◌^◌, ◌<◌}
use Rattle.cm_bits.proofs.FieldsLemmas.{replace_lt, mask_is, shifted_is}
use Rattle.cm_bits.proofs.PackedLemmas.{digit_le}
use Rattle.cm_bits.proofs.bytes.with_part.Goals as goal

pub overflow_sub-result : goal.overflow_sub-result
overflow_sub-result c =
    let w = c.requires.ones in
    rw (mask_is c.args.number c.args.shift w.0 c.args.mask (omega (arith, c.requires.shift)) w.1 w.2) (digit_le c.args.number (2 ^ c.args.shift) (2 ^ w.0))

pub overflow_add-result : goal.overflow_add-result
overflow_add-result c =
    let w = c.requires.ones in
    let below : c.args.value < 2 ^ w.0 = omega (arith, w.2, c.requires.value) in
    let lt : c.args.number - c.args.number / 2 ^ c.args.shift % 2 ^ w.0 * 2 ^ c.args.shift + c.args.value * 2 ^ c.args.shift < 2 ^ 64 =
    replace_lt c.args.number c.args.shift w.0 64 c.args.value (omega (arith, c.requires.shift, w.1)) (omega arith) below in
    rw (mask_is c.args.number c.args.shift w.0 c.args.mask (omega (arith, c.requires.shift)) w.1 w.2, shifted_is c.args.value c.args.shift w.0 (omega (arith, c.requires.shift)) w.1 (omega (arith, below))) (omega arith)

pub returns : goal.returns
returns c =
    let w = c.requires.ones in
    let below : c.args.value < 2 ^ w.0 = omega (arith, w.2, c.requires.value) in
    let le = digit_le c.args.number (2 ^ c.args.shift) (2 ^ w.0) in
    rw (w.2, mask_is c.args.number c.args.shift w.0 c.args.mask (omega (arith, c.requires.shift)) w.1 w.2, shifted_is c.args.value c.args.shift w.0 (omega (arith, c.requires.shift)) w.1 (omega (arith, below))) (omega arith)
