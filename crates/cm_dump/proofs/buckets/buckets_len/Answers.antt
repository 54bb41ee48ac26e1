use Rattle.std.proofs.Common.{◌≡◌, ◌∙◌, ◌<◌, ◌≤◌, ℕ, List, length, ap, arith}
use Rattle.std.specs.Prelude.{slice_index_or}
use Rattle.std.proofs.lemmas.List.FromFn.{length-map-range_with_len}
use Rattle.cm_brz_func.specs.Functions.{Bucket, no_bucket}
use Rattle.cm_spec.specs.Image.{packed_byte, packed_len}
use Rattle.cm_dump.specs.Forms.{version_2}
use Rattle.cm_dump.specs.declared.versions.Version.TheVariants as version
use Rattle.cm_dump.proofs.FormLemmas.{form_facts}
use Rattle.cm_dump.proofs.BucketLemmas.{length-buckets_more}
use Rattle.cm_dump.proofs.SizeLemmas.{bucket_short}
use Rattle.cm_dump.proofs.buckets.buckets_len.Goals as goal

pub loop-j-preserved : goal.loop-j-preserved
loop-j-preserved c =
    let bs : List Bucket = c.args.brz.now.buckets in
    let j : ℕ = c.loop-j.j in
    let inside : j < length bs = omega (arith, c.loop-j-test.true, c.buckets-j-end.ensures.buckets) in
    let b : Bucket = slice_index_or bs j no_bucket in
    let valid = c.image_of.ensures.valid in
    let size : length c.image_of.result.now ≡ packed_len 4 (length b.cells) = ap length c.image_of.ensures.image ∙ length-map-range_with_len (packed_byte 4 4 b.cells) 0 (packed_len 4 (length b.cells)) in
    let short : packed_len 4 (length b.cells) ≤ 4096 = omega (arith, ap (packed_len 4) valid.cells, bucket_short version_2 (form_facts version.Two) b.size c.args.brz.now.ratio valid.few c.buckets-j-end.ensures.valid.ratio) in
    record {
      is = omega (arith, c.loop-j.invariant.is, length-buckets_more version_2 (form_facts version.Two) bs j inside, size);
      near = omega (arith, c.loop-j.invariant.near, size, short);
    }
