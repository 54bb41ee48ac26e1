use Rattle.std.proofs.Common.{◌≡◌, ◌<◌, ℕ}
use Rattle.cm_keys_lent.proofs.ends.bad_end.Given as goal
use Rattle.cm_keys_lent.specs.Ends.{IsEnd, begin_of}

abbrev pub invariant-ends : goal.invariant-ends
invariant-ends l = record {
  from_is : l.from ≡ begin_of l.ends l.i;
  before : (k : ℕ) → k < l.i → IsEnd l.bytes l.ends k;
}
