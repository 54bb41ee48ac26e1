use Rattle.std.proofs.Common.{◌<◌, ◌++◌, ◌^◌, ℕ, List, [], ◌∷◌, take, length, get_or, length-take, sym, subst, arith}
use Rattle.std.specs.Char.{digit_value}
use Rattle.std.specs.Str.Parse.{AllDigits, digits_value}
use Rattle.std.proofs.lemmas.Int.Digits.{digits_value_more}
use Rattle.std.proofs.lemmas.List.{take_more}
use Rattle.std.proofs.lemmas.Str.{digit_value_digit}
use Rattle.std.proofs.lemmas.Str.Parse.{digit_from_value}
use Rattle.cm_witness_report.proofs.FieldLemmas.{value_short}
use Rattle.cm_witness_report.proofs.fields.first_digits.Goals as goal

all_push : (ds : List ℕ) (c : ℕ) → AllDigits 10 ds → digit_value c < 10 → AllDigits 10 (ds ++ c ∷ [])
all_push [] c all small = (small, tt)
all_push (d ∷ ds) c all small = (all.0, all_push ds c all.1 small)

-- fewer than eleven digits write less than this
below : (text : List ℕ) (n : ℕ) → n < 11 → AllDigits 10 (take n text) → digits_value 10 (take n text) < 10 ^ 11
below text n few all = value_short (take n text) all (omega (arith, length-take n text, few))

pub overflow_mul-value : goal.overflow_mul-value
overflow_mul-value c =
    let inv = c.loop-n.invariant in
    let bound : digits_value 10 (take c.loop-n.n c.args.text.now) < 10 ^ 11 = below c.args.text.now c.loop-n.n c.loop-n-test.true inv.digits in
    omega (arith, bound, inv.value)

pub overflow_add-value : goal.overflow_add-value
overflow_add-value c =
    let inv = c.loop-n.invariant in
    let bound : digits_value 10 (take c.loop-n.n c.args.text.now) < 10 ^ 11 = below c.args.text.now c.loop-n.n c.loop-n-test.true inv.digits in
    let small : digit_value (get_or c.args.text.now c.loop-n.n 0) < 10 = c.if-not-is_ascii_digit.ensures.bound in
    omega (arith, bound, inv.value, digit_from_value (get_or c.args.text.now c.loop-n.n 0) small, c.from.ensures)

pub loop-n-preserved : goal.loop-n-preserved
loop-n-preserved c =
    let inv = c.loop-n.invariant in
    let text = c.args.text.now in
    let n = c.loop-n.n in
    let inside : n < length text = omega (arith, inv.inside, c.if-n-text.false) in
    let small : digit_value (get_or text n 0) < 10 = c.if-not-is_ascii_digit.ensures.bound in
    record {
      few = omega (arith, c.loop-n-test.true);
      inside = omega (arith, inside);
      digits = subst (AllDigits 10) (sym (take_more text n 0 inside)) (all_push (take n text) (get_or text n 0) inv.digits small);
      value = omega (arith, digits_value_more 10 text n inside, inv.value, digit_value_digit (get_or text n 0) (digit_from_value (get_or text n 0) small), c.from.ensures);
    }
