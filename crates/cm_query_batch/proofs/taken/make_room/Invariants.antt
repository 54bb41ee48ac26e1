use Rattle.std.proofs.Common.{◌≡◌, length}
use Rattle.cm_query_batch.proofs.taken.make_room.Given as goal

-- there is room for the answers before
abbrev pub invariant-loop-i : goal.invariant-loop-i
invariant-loop-i l = length l.answers.items ≡ l.i
