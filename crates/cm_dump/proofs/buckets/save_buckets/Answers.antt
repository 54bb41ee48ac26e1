use Rattle.std.proofs.Common.{rules, ◌+◌, ◌<◌, ℕ, List, length, take, drop, arith}
use Rattle.std.specs.Prelude.{slice_index_or}
use Rattle.cm_brz_func.specs.Functions.{Bucket, no_bucket}
use Rattle.cm_dump_images.specs.WritingLaws.{more_stopped, more_wrote}
use Rattle.cm_dump.specs.Dumps.{bucket_image, buckets_image}
use Rattle.cm_dump.proofs.BucketLemmas.{buckets_more, buckets_whole}
use Rattle.cm_dump.specs.Forms.{version_2}
use Rattle.cm_dump.proofs.buckets.save_buckets.Goals as goal

pub returns-in_err-save_bucket-clause-bytes : goal.returns-in_err-save_bucket-clause-bytes
returns-in_err-save_bucket-clause-bytes g c =
    let bs : List Bucket = c.args.brz.now.buckets in
    let j : ℕ = c.loop-j.j in
    let inside : j < length bs = omega (arith, c.loop-j-test.true, c.buckets-j-end.ensures.buckets) in
    more_stopped _ (g.O.Sink.state c.loop-j.out).written _ (buckets_image version_2 (take j bs)) (bucket_image version_2 (slice_index_or bs j no_bucket)) (buckets_image version_2 (drop (j + 1) bs)) (buckets_image version_2 bs) _ (buckets_whole version_2 bs j inside) c.from_residual.ensures.0 c.loop-j.invariant.bytes c.in_err-save_bucket.ensures.bytes

pub loop-j-preserved : goal.loop-j-preserved
loop-j-preserved g c =
    let bs : List Bucket = c.args.brz.now.buckets in
    let j : ℕ = c.loop-j.j in
    let inside : j < length bs = omega (arith, c.loop-j-test.true, c.buckets-j-end.ensures.buckets) in
    record {
      quiet = search rules;
      bytes = more_wrote _ (g.O.Sink.state c.loop-j.out).written _ (buckets_image version_2 (take j bs)) (bucket_image version_2 (slice_index_or bs j no_bucket)) _ (buckets_more version_2 bs j inside) c.loop-j.invariant.bytes c.in_ok-save_bucket.ensures.bytes;
    }
