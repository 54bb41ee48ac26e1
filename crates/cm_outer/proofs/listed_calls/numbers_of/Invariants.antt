use Rattle.std.proofs.Common.{◌≡◌, take}
use Rattle.cm_outer.specs.DiskCalls.{numbers}
use Rattle.cm_outer.proofs.listed_calls.numbers_of.Given as goal

abbrev pub invariant-loop-call : goal.invariant-loop-call
invariant-loop-call l = l.found.items ≡ numbers l.kind (take l.call-index l.listed)
