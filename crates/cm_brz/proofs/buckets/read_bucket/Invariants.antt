use Rattle.std.proofs.Common.{◌≡◌, List, true, length}
use Rattle.cm_brz_split.specs.BucketPass.{last_line}
use Rattle.cm_brz_split.specs.Records.{Record}
use Rattle.cm_brz.proofs.Reading.{AreRead}
use Rattle.cm_brz.proofs.buckets.read_bucket.Given as goal

abbrev pub invariant-loop-count : goal.invariant-loop-count
invariant-loop-count g l =
    let B = g.B.Store in
    record {
      usable : B.usable l.store ≡ true;
      sealed_still : B.sealed l.store ≡ true;
      asks : B.may_ask l.store l.bucket;
      known_still : B.known l.store ≡ B.known l.fn.store;
      still : B.faults l.store ≡ B.faults l.fn.store;
      given : B.given l.store l.bucket ≡ l.count;
      long : length l.held.keys ≡ l.count;
      last : last_line l.held.keys ≡ B.given_last l.store l.bucket;
      holds : (records : List Record) → B.holds l.fn.store records → B.holds l.store records;
      reads : (records : List Record) → B.holds l.fn.store records → AreRead l.held.keys l.count l.bucket records;
    }
