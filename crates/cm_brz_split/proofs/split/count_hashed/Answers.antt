use Rattle.std.proofs.Common.{◌<◌, arith, length, refl}
use Rattle.cm_brz_split.specs.SizesLaws.{sum_one_more, words_more}
use Rattle.cm_brz_split.proofs.split.count_hashed.Goals as goal

pub loop-hashed-preserved : goal.loop-hashed-preserved
loop-hashed-preserved c =
    let before = c.loop-hashed in
    let bucket = c.bucket_of_hashed in
    let low : bucket.result < length before.sizes = omega arith in
    record {
      all = omega (arith, sum_one_more before.sizes bucket.result _ low refl, before.invariant.all);
      each = words_more c.args.sizes.now before.sizes c.args.all.now before.hashed-index c.args.split.now.buckets bucket.result _ _ before.invariant.each c.loop-hashed-test.true bucket.ensures.bucket low refl;
    }
