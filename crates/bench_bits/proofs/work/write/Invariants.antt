use Rattle.std.proofs.Common.{◌≡◌, length}
use Rattle.bench_bits.proofs.work.write.Given as goal

abbrev pub invariant-loop-turn : goal.invariant-loop-turn
invariant-loop-turn g l = record {
  len : length (g.C.Cells.cells l.table) ≡ l.n;
  bound : g.C.Cells.bound_of l.table ≡ l.bound;
}
