use Rattle.std.proofs.Common.{◌≡◌, ◌≤◌, length, take}
use Rattle.cm_peel.specs.Waiting.{AreMarked, edge_tags}
use Rattle.cm_peel.proofs.freed.mark_listed.Given as goal

abbrev pub invariant-loop-i : goal.invariant-loop-i
invariant-loop-i l = record {
  long : length l.bytes ≡ length l.fn.bytes;
  room : length l.marks ≡ length l.fn.marks;
  few : l.count ≤ l.i;
  marked : AreMarked (edge_tags l.fn.bytes l.fn.marks) (edge_tags l.bytes l.marks) l.rounds (take l.i l.places) l.count;
}
