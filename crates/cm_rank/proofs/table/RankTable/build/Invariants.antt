use Rattle.std.proofs.Common.{◌≡◌, ◌*◌, ◌^◌, length}
use Rattle.std.specs.Int.{div_ceil}
use Rattle.cm_rank.proofs.RankLemmas.{samples_to}
use Rattle.cm_rank.specs.Ranks.{rank_of}
use Rattle.cm_rank.proofs.table.RankTable.build.Given as goal

abbrev pub invariant-loop-k : goal.invariant-loop-k
invariant-loop-k g l = record {
  step : l.step ≡ 2 ^ l.b;
  len : l.len ≡ length (g.C.Lookup.cells l.cells);
  all : l.blocks ≡ div_ceil (length (g.C.Lookup.cells l.cells)) l.step;
  rank : l.rank ≡ rank_of l.idle (g.C.Lookup.cells l.cells) (l.k * l.step);
  ranks : l.ranks.items ≡ samples_to l.idle (g.C.Lookup.cells l.cells) l.step l.k;
}
