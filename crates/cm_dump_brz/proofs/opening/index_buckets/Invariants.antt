use Rattle.std.proofs.Common.{◌≡◌, length}
use Rattle.cm_dump_brz.proofs.IndexLemmas.{IsIndexed}
use Rattle.cm_dump_brz.proofs.opening.index_buckets.Given as goal

-- the buckets before are indexed
abbrev pub invariant-loop-j : goal.invariant-loop-j
invariant-loop-j l = record {
  len : length l.index ≡ length l.fn.index;
  is : IsIndexed l.version l.header l.dump l.index l.j l.at l.held;
}
