use Rattle.std.proofs.Common.{◌≡◌, ◌≤◌, true, drop}
use Rattle.std.specs.Option.{ForSome}
use Rattle.cm_brz_split.proofs.Equal.{AreNotedBut, GaveNoted}
use Rattle.cm_brz_split.proofs.Rising.{RiseTo}
use Rattle.cm_brz_split.proofs.overfull.gather_equal.Given as goal

abbrev pub invariant-loop-count : goal.invariant-loop-count
invariant-loop-count g l =
    let P = g.P.KeyPass in
    record {
      ready : P.usable l.keys ≡ true;
      same : P.told l.keys ≡ P.told l.fn.keys;
      quiet : P.faults l.keys ≡ P.faults l.fn.keys;
      at : P.place l.keys ≡ l.count;
      few : l.found ≤ l.count;
      gave : GaveNoted (P.gave l.keys) l.found l.equal.firsts l.equal.pairs.items l.split.buckets l.split.seed l.over.bucket;
      rising : ForSome (P.told l.fn.keys) (λ told. RiseTo (P.place l.keys) (P.last l.keys) told.keys);
      noted : ForSome (P.told l.fn.keys) (λ told. AreNotedBut l.found l.equal.firsts l.equal.pairs.items (drop (P.place l.keys) told.keys) told.keys l.split.buckets l.split.seed l.over.bucket);
    }
