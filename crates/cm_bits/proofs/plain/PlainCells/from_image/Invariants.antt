use Rattle.std.proofs.Common.{◌≡◌, ℕ, ◌<◌, length}
use Rattle.cm_spec.specs.Lists.{list_of}
use Rattle.cm_bits.specs.Fault.{plain_cell}
use Rattle.cm_bits.proofs.plain.PlainCells.from_image.Given as goal

abbrev pub invariant-loop-i : goal.invariant-loop-i
invariant-loop-i l = record {
  len : length l.items.items ≡ l.i;
  made : l.items.items ≡ list_of (plain_cell l.bytes) l.i;
  below : (k : ℕ) → k < l.i → plain_cell l.bytes k < l.bound;
}
