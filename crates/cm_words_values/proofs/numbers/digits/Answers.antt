use Rattle.std.proofs.Common.{sym, ◌∙◌}
use Rattle.cm_words_values.proofs.DigitLemmas.{next_digit, no_digits, number_of-none}
use Rattle.cm_words_values.proofs.numbers.digits.Goals as goal

pub loop-byte-preserved : goal.loop-byte-preserved
loop-byte-preserved c = next_digit c.args.text.now c.loop-byte.byte-index c.loop-byte.value c.loop-byte-test.true
    (sym c.is_ascii_digit.ensures.value ∙ c.if-not-is_ascii_digit.false) c.loop-byte.invariant

pub returns-then-not-is_ascii_digit-clause-value : goal.returns-then-not-is_ascii_digit-clause-value
returns-then-not-is_ascii_digit-clause-value c = number_of-none c.args.most c.args.text.now
    (no_digits c.args.text.now c.loop-byte.byte-index c.loop-byte-test.true
    (sym c.is_ascii_digit.ensures.value ∙ c.if-not-is_ascii_digit.true) c.loop-byte.invariant.1)
