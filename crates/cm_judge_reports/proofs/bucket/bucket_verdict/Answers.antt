use Rattle.std.proofs.Common.{◌≡◌, ◌∙◌, ◌<◌, ℕ, ap, arith}
use Rattle.cm_brz_func.specs.Functions.{bucket_count}
use Rattle.cm_brz_func.specs.Splitting.{keys_of_bucket}
use Rattle.cm_judge_reports.proofs.Taking.{verdict_taken}
use Rattle.cm_judge_reports.proofs.bucket.bucket_verdict.Goals as goal

pub returns-clause-verdict : goal.returns-clause-verdict
returns-clause-verdict g c = λ told is.
    let k : ℕ = bucket_count c.args.sizes.keys c.args.sizes.width in
    let count : c.new-buckets.result ≡ k = c.new-buckets.ensures.value ∙ c.bucket_total.ensures.count in
    let taken : c.take_bucket.new.taken.keys ≡ keys_of_bucket told.keys k c.args.place.split c.args.place.bucket = c.in_ok-take_bucket.ensures.taken c.if-not-branch.false told is ∙ ap (λ (n : ℕ). keys_of_bucket told.keys n c.args.place.split c.args.place.bucket) count in
    let there : c.args.place.bucket < k = omega (arith, c.if-place-value.false, c.value.ensures.value, count) in
    verdict_taken c.args.place k c.args.sizes.ratio c.args.shown.now.seed c.take_bucket.new.taken.keys (keys_of_bucket told.keys k c.args.place.split c.args.place.bucket) c.args.shown.now.edges.items c.args.shown.now.equal.items c.in_ok-verdict.verdict
    there c.take_bucket.ensures.few taken c.in_ok-verdict.ensures.verdict
