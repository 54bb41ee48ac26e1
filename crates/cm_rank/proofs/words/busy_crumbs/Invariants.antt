use Rattle.std.proofs.Common.{◌≡◌, ◌+◌, ◌*◌, ◌≤◌}
use Rattle.cm_rank.specs.Ranks.{rank_of}
use Rattle.cm_rank.proofs.words.busy_crumbs.Given as goal

abbrev pub invariant-loop-k : goal.invariant-loop-k
invariant-loop-k g l = record {
  count : rank_of 3 (g.C.Lookup.cells l.cells) l.from + l.count ≡ rank_of 3 (g.C.Lookup.cells l.cells) (l.from + 32 * l.k);
  few : l.count ≤ 32 * l.k;
}
