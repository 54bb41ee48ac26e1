use Rattle.std.proofs.Common.{◌≡◌, ◌-◌, ◌≤◌, true, drop, length, sum}
use Rattle.std.specs.Option.{ForSome}
use Rattle.cm_brz_split.specs.Given.{GaveSizes}
use Rattle.cm_brz_split.specs.SizesLaws.{AreCountedBut}
use Rattle.cm_brz_split.proofs.split.count_buckets.Given as goal

abbrev pub invariant-more : goal.invariant-more
invariant-more g l =
    let P = g.P.KeyPass in
    record {
      ready : P.usable l.keys ≡ true;
      same : P.told l.keys ≡ P.told l.fn.keys;
      quiet : P.faults l.keys ≡ P.faults l.fn.keys;
      few : l.count ≤ l.m;
      at : P.place l.keys ≡ l.count;
      all : sum l.sizes ≡ l.count;
      long : length l.sizes ≡ l.split.buckets;
      sizes : ForSome (P.told l.fn.keys) (λ told. AreCountedBut l.sizes (drop (P.place l.keys) told.keys) told.keys l.split.buckets l.split.seed);
      gave : GaveSizes (P.gave l.keys) l.sizes l.split.buckets l.split.seed;
    }

abbrev pub decreases-more : goal.decreases-more
decreases-more g l = l.m - l.count
