use Rattle.std.proofs.Common.{◌≡◌, [], true, false, drop, length, sum}
use Rattle.std.specs.Option.{ForSome}
use Rattle.cm_brz_split.proofs.PutLemmas.{ArePut}
use Rattle.cm_brz_split.specs.Given.{GaveSizes}
use Rattle.cm_brz_split.specs.SizesLaws.{AreCountedBut}
use Rattle.cm_brz_split.proofs.putting.put_each.Given as goal

abbrev pub invariant-loop-count : goal.invariant-loop-count
invariant-loop-count g l =
    let P = g.P.KeyPass in
    let B = g.B.Store in
    record {
      ready : P.usable l.keys ≡ true;
      same : P.told l.keys ≡ P.told l.fn.keys;
      quiet : P.faults l.keys ≡ P.faults l.fn.keys;
      at : P.place l.keys ≡ l.count;
      usable : B.usable l.store ≡ true;
      open_still : B.sealed l.store ≡ false;
      last : B.put_last l.store ≡ P.last l.keys;
      known_still : B.known l.store ≡ B.known l.fn.store;
      still : B.faults l.store ≡ B.faults l.fn.store;
      long : length l.put ≡ l.split.buckets;
      all : sum l.put ≡ l.count;
      counts : ForSome (P.told l.fn.keys) (λ told. AreCountedBut l.put (drop (P.place l.keys) told.keys) told.keys l.split.buckets l.split.seed);
      gave : GaveSizes (P.gave l.keys) l.put l.split.buckets l.split.seed;
      records : B.holds l.fn.store [] → ArePut (B.holds l.store) (P.told l.fn.keys) (P.place l.keys) l.put l.split.buckets l.split.seed;
    }
