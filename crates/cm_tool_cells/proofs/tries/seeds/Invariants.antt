use Rattle.std.proofs.Common.{◌≡◌}
use Rattle.cm_tool_cells.specs.Seeds.{seeds_of}
use Rattle.cm_tool_cells.proofs.tries.seeds.Given as goal

abbrev pub invariant-loop-i : goal.invariant-loop-i
invariant-loop-i l = l.seeds.items ≡ seeds_of l.first l.i
