use Rattle.std.proofs.Common.{◌≡◌, ◌*◌, length}
use Rattle.bench_peel.proofs.made.triples.Given as goal

abbrev pub invariant-loop-e : goal.invariant-loop-e
invariant-loop-e l = record {
  vertices : l.edges.vertices ≡ 3 * l.third;
  count : length l.edges.edges ≡ l.e;
}
