use Rattle.std.proofs.Common.{◌≡◌, ◌≤◌, true, drop, length}
use Rattle.std.specs.Option.{ForSome}
use Rattle.cm_brz_split.specs.BucketPass.{last_line}
use Rattle.cm_judge_reports.proofs.Taking.{AreTakenBut}
use Rattle.cm_judge_reports.proofs.bucket.take_bucket.Given as goal
use Rattle.cm_spec.specs.declared.limits.TheConstants.{MAX_BUCKET}

abbrev pub invariant-loop-count : goal.invariant-loop-count
invariant-loop-count g l =
    let P = g.P.KeyPass in
    record {
      ready : P.usable l.keys ≡ true;
      same : P.told l.keys ≡ P.told l.fn.keys;
      quiet : P.faults l.keys ≡ P.faults l.fn.keys;
      at : P.place l.keys ≡ l.count;
      few : length l.taken.keys ≤ MAX_BUCKET;
      rises : last_line l.taken.keys ≤ P.last l.keys;
      taken : ForSome (P.told l.fn.keys) (λ told. AreTakenBut l.taken.keys (drop (P.place l.keys) told.keys) told.keys l.split.buckets l.split.seed l.bucket);
    }
