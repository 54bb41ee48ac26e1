use Rattle.std.proofs.Common.{take}
use Rattle.cm_witness_gather.specs.Noted.{AreNoted, with_lines}
use Rattle.cm_witness_gather.proofs.firsts.equal_pairs.Given as goal

abbrev pub invariant-loop-i : goal.invariant-loop-i
invariant-loop-i l = AreNoted (take l.i (with_lines l.lines l.keys)) l.equal.firsts l.equal.pairs.items
