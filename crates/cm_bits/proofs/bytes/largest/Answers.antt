use Rattle.std.proofs.Common.{◌≡◌, arith, inl, inr}
use Rattle.std.specs.List.{slice_index}
use Rattle.std.proofs.lemmas.Bool.{cases_lt}
use Rattle.std.proofs.lemmas.List.{get_or_past}
use Rattle.cm_bits.proofs.bytes.largest.Goals as goal

pub returns : goal.returns
returns c k = elim (cases_lt k c.loop-b.b-index) [
  | inl l ↦ c.loop-b.invariant k l
  | inr l ↦ let none : slice_index c.args.bytes.now k ≡ 0 = get_or_past c.args.bytes.now k 0 (omega (arith, c.loop-b-test.false)) in omega (arith, none)
]
