use Rattle.std.proofs.Common.{◌≡◌, ◌≤◌, length}
use Rattle.cm_store.proofs.numbering.number_some.Given as goal
use Rattle.cm_store.specs.Numbers.{AreNumbered}

abbrev pub invariant-records : goal.invariant-records
invariant-records l = record {
  inside : l.next ≤ length l.bytes;
  count_is : length l.some.items ≡ l.i;
  numbered : AreNumbered l.index l.bytes l.at l.some.items l.next;
}
