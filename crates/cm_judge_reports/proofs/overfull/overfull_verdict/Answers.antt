use Rattle.std.proofs.Common.{◌≡◌, ◌∙◌, ℕ, List, [], ◌∷◌, Option, None, Some, ap, option_map, refl, subst, sym}
use Rattle.cm_brz_func.specs.Functions.{bucket_count}
use Rattle.cm_brz_func.specs.Splitting.{IsLowestOver, keys_of_bucket}
use Rattle.cm_judge_reports.proofs.Lowest.{pairs_rise_in, verdict_count, verdict_other, verdict_pairs}
use Rattle.cm_judge_reports.proofs.overfull.overfull_verdict.Goals as goal
use Rattle.cm_judge_verdict.specs.Rising.{RisesBy}
use Rattle.cm_judge_verdict.specs.Truth.{HaveRisingLines}
use Rattle.cm_judge_verdict.specs.Verdicts.{first_reason, least, lines_apart, overfull_reasons}
use Rattle.cm_judge_verdict.specs.declared.verdict.Reason.TheVariants.{NoPair}
use Rattle.cm_witness_gather.specs.Pairs.{pairs}
use Rattle.cm_witness_gather.specs.declared.certificate.Pair.{Pair}

same_over : (keys : List (ℕ × List ℕ)) (n k split low bucket size count : ℕ) → n ≡ k → low ≡ bucket → size ≡ count → IsLowestOver keys n split low size → IsLowestOver keys k split bucket count
same_over keys n k split low bucket size count same at many over = subst (λ (x : ℕ). IsLowestOver keys x split bucket count) same (subst (λ (x : ℕ). IsLowestOver keys n split x count) at (subst (λ (x : ℕ). IsLowestOver keys n split low x) many over))

by_pairs : (keys : List (ℕ × List ℕ)) (n k split low bucket size count : ℕ) (real equal : List Pair) (apart : Option ℕ) → n ≡ k → low ≡ bucket → size ≡ count → IsLowestOver keys n split low size → real ≡ pairs (keys_of_bucket keys n split low) → HaveRisingLines keys
    → (RisesBy (λ p. p.again) 0 real → apart ≡ least (lines_apart real equal)) → first_reason (option_map NoPair apart ∷ []) ≡ first_reason (overfull_reasons keys k split bucket count equal)
by_pairs keys n k split low bucket size count real equal apart same at many over are rise compared =
    let own : real ≡ pairs (keys_of_bucket keys k split bucket) = are ∙ ap (λ (x : ℕ). pairs (keys_of_bucket keys x split low)) same ∙ ap (λ (x : ℕ). pairs (keys_of_bucket keys k split x)) at in
    let rises : RisesBy (λ p. p.again) 0 real = subst (λ (ps : List Pair). RisesBy (λ p. p.again) 0 ps) (sym own) (pairs_rise_in keys k split bucket rise) in
    verdict_pairs keys k split bucket count equal apart (same_over keys n k split low bucket size count same at many over) (compared rises ∙ ap (λ (ps : List Pair). least (lines_apart ps equal)) own)

pub returns-then-over-claim-clause-verdict : goal.returns-then-over-claim-clause-verdict
returns-then-over-claim-clause-verdict g c = λ told is.
    let over = same_over told.keys _ (bucket_count c.args.m c.args.b) c.args.claim.split _ _ _ _ (c.new-buckets.ensures.value ∙ c.bucket_total.ensures.count) refl refl ((rw c.in-Some.is at c.in_ok-over.ensures.lowest) told is) in
    verdict_other told.keys (bucket_count c.args.m c.args.b) c.args.claim.split c.in-Some.over.bucket c.args.claim.bucket c.in-Some.over.count c.args.claim.count c.args.equal.now over c.if-over-claim.true

pub returns-then-over-claim-2-clause-verdict : goal.returns-then-over-claim-2-clause-verdict
returns-then-over-claim-2-clause-verdict g c = λ told is.
    let over = same_over told.keys _ (bucket_count c.args.m c.args.b) c.args.claim.split _ c.args.claim.bucket _ _ (c.new-buckets.ensures.value ∙ c.bucket_total.ensures.count) c.if-over-claim.false refl ((rw c.in-Some.is at c.in_ok-over.ensures.lowest) told is) in
    verdict_count told.keys (bucket_count c.args.m c.args.b) c.args.claim.split c.args.claim.bucket c.in-Some.over.count c.args.claim.count c.args.equal.now over c.if-over-claim-2.true

pub gather_equal-requires-clause-counted : goal.gather_equal-requires-clause-counted
gather_equal-requires-clause-counted g c = λ told is. c.requires.counted told (sym c.find_over.ensures.passes.told ∙ is)

pub returns-in-Some-first_apart-clause-verdict : goal.returns-in-Some-first_apart-clause-verdict
returns-in-Some-first_apart-clause-verdict g c = λ told is.
    by_pairs told.keys c.new-buckets.result (bucket_count c.args.m c.args.b) c.args.claim.split c.in-Some.over.bucket c.args.claim.bucket c.in-Some.over.count c.args.claim.count c.deref.result.now c.args.equal.now (Some c.in-Some-first_apart.line)
    (c.new-buckets.ensures.value ∙ c.bucket_total.ensures.count) c.if-over-claim.false c.if-over-claim-2.false ((rw c.in-Some.is at c.in_ok-over.ensures.lowest) told is)
    (c.deref.ensures.value ∙ c.in_ok-real.ensures.equal told (c.find_over.ensures.passes.told ∙ is)) (c.in_ok-real.ensures.rising told (c.find_over.ensures.passes.told ∙ is)) (λ rises. c.in-Some-first_apart.ensures.apart rises c.requires.equal)

pub returns-clause-verdict : goal.returns-clause-verdict
returns-clause-verdict g c = λ told is.
    by_pairs told.keys c.new-buckets.result (bucket_count c.args.m c.args.b) c.args.claim.split c.in-Some.over.bucket c.args.claim.bucket c.in-Some.over.count c.args.claim.count c.deref.result.now c.args.equal.now None
    (c.new-buckets.ensures.value ∙ c.bucket_total.ensures.count) c.if-over-claim.false c.if-over-claim-2.false ((rw c.in-Some.is at c.in_ok-over.ensures.lowest) told is)
    (c.deref.ensures.value ∙ c.in_ok-real.ensures.equal told (c.find_over.ensures.passes.told ∙ is)) (c.in_ok-real.ensures.rising told (c.find_over.ensures.passes.told ∙ is)) (λ rises. c.in-None-first_apart.ensures.apart rises c.requires.equal)
