use Rattle.std.proofs.Common.{◌≡◌, ◌-◌, drop, take}
use Rattle.cm_dump.specs.Dumps.{ranks_image}
use Rattle.cm_dump.proofs.ranks.gather_ranks.Given as goal

abbrev pub invariant-loop-i : goal.invariant-loop-i
invariant-loop-i l = l.piece.items ≡ ranks_image (take (l.i - l.from) (drop l.from l.ranks.ranks))
