use Rattle.std.proofs.Common.{◌≡◌, ◌^◌, ◌<◌, drop}
use Rattle.std.specs.Str.{all_ascii_digits}
use Rattle.std.specs.Str.Parse.{digits_value, digits_value_after}
use Rattle.cm_words_values.proofs.numbers.digits.Given as goal

-- the digits still to come continue the value so far, and show whether all are digits
abbrev pub invariant-loop-byte : goal.invariant-loop-byte
invariant-loop-byte l = (digits_value_after 10 l.value (drop l.byte-index l.text) ≡ digits_value 10 l.text)
    × (all_ascii_digits (drop l.byte-index l.text) ≡ all_ascii_digits l.text)
    × (l.value < 10 ^ l.byte-index)
