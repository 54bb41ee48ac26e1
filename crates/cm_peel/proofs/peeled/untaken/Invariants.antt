use Rattle.std.proofs.Common.{◌≡◌, ◌-◌, ◌≤◌, filter, length, take}
use Rattle.cm_spec.specs.Lists.{numbers_from}
use Rattle.cm_peel.proofs.Ending.{is_untaken}
use Rattle.cm_peel.proofs.peeled.untaken.Given as goal

abbrev pub invariant-edges : goal.invariant-edges
invariant-edges l = record {
  long : length l.list.items ≡ l.many;
  place : l.at ≤ l.many;
  within : l.e ≤ length l.bytes.items;
  listed : take l.at l.list.items ≡ filter (is_untaken l.bytes.items) (numbers_from 0 l.e);
}

abbrev pub decreases-edges : goal.decreases-edges
decreases-edges l = length l.bytes.items - l.e
