use Rattle.std.proofs.Common.{◌≡◌, ◌≤◌, ◌+◌, length, take}
use Rattle.cm_peel.specs.AtRound.{AreTaken}
use Rattle.cm_peel.proofs.chunk.take_listed.Given as goal

abbrev pub invariant-loop-i : goal.invariant-loop-i
invariant-loop-i l = record {
  long : length l.bytes ≡ length l.fn.bytes;
  room : length l.list ≡ length l.fn.list;
  few : l.end ≤ l.count + l.i;
  taken : AreTaken l.rounds (take l.i l.places) l.fn.bytes l.bytes (take l.count l.fn.list) (take l.end l.list);
}
