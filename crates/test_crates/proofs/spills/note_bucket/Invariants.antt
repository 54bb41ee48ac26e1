use Rattle.std.proofs.Common.{◌≡◌, true}
use Rattle.cm_spill.specs.Stores.{IsNextBucket}
use Rattle.test_crates.proofs.spills.note_bucket.Given as goal

abbrev pub invariant-records : goal.invariant-records
invariant-records g l = record {
  usable : l.runs.usable ≡ true;
  sealed : l.runs.sealed ≡ true;
  bucket : IsNextBucket l.runs l.bucket;
}
