use Rattle.std.proofs.Common.{◌≡◌, ◌+◌, ◌≤◌}
use Rattle.cm_rank.specs.Ranks.{rank_of}
use Rattle.cm_rank.proofs.counted.count_each.Given as goal

abbrev pub invariant-loop-i : goal.invariant-loop-i
invariant-loop-i g l = record {
  count : rank_of l.idle (g.C.Lookup.cells l.cells) l.from + l.count ≡ rank_of l.idle (g.C.Lookup.cells l.cells) l.i;
  few : l.count ≤ l.i;
}
