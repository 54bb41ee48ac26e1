use Rattle.std.proofs.Common.{◌≡◌, ◌≤◌, ◌-◌, length, take}
use Rattle.std.specs.Str.Parse.{AllDigits, digits_value}
use Rattle.cm_witness_report.proofs.fields.first_digits.Given as goal

abbrev pub invariant-loop-n : goal.invariant-loop-n
invariant-loop-n l = record {
  few : l.n ≤ 11;
  inside : l.n ≤ length l.text;
  digits : AllDigits 10 (take l.n l.text);
  value : l.value ≡ digits_value 10 (take l.n l.text);
}

abbrev pub decreases-loop-n : goal.decreases-loop-n
decreases-loop-n l = 11 - l.n
