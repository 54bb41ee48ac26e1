use Rattle.std.proofs.Common.{◌≡◌, ◌*◌, ◌/◌, ◌^◌, length}
use Rattle.cm_rank.specs.Ranks.{HoldRanks, rank_of}
use Rattle.cm_rank.proofs.lent.first_bad_rank.Given as goal

abbrev pub invariant-loop-k : goal.invariant-loop-k
invariant-loop-k g l = record {
  step : l.step ≡ 2 ^ l.b;
  len : l.len ≡ length (g.C.Lookup.cells l.cells);
  many : l.many ≡ length l.bytes / 4;
  rank : l.rank ≡ rank_of l.idle (g.C.Lookup.cells l.cells) (l.k * l.step);
  right : HoldRanks l.idle l.b (g.C.Lookup.cells l.cells) l.bytes l.k;
}
