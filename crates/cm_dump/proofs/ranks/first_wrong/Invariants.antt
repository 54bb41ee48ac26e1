use Rattle.std.proofs.Common.{drop}
use Rattle.cm_dump.specs.Parts.{AreRanks}
use Rattle.cm_dump.proofs.ranks.first_wrong.Given as goal

abbrev pub invariant-loop-i : goal.invariant-loop-i
invariant-loop-i l = AreRanks l.part (drop l.from l.ranks.ranks) l.i
