-- How what is found of an overfull bucket makes up the verdict on its report.
use Rattle.std.proofs.Common.{◌≡◌, ◌≢◌, ℕ, Bool, true, false, cond, not, ◌&&◌, leb, ltb, List, [], ◌∷◌, sym, refl, ap, ◌∙◌, Option, None, Some, option_map}
use Rattle.std.specs.List.{find, list_all, range_with_len}
use Rattle.std.proofs.lemmas.Bool.{eq-eqb, le-ltb, leb-true, ne_eqb}
use Rattle.cm_brz_func.specs.Splitting.{IsLowestOver, keys_of_bucket, size_of_bucket}
use Rattle.cm_brz_split.specs.Split.{is_split, split_of}
use Rattle.cm_judge_verdict.specs.BucketLaws.{lowest_is, over_lowest}
use Rattle.cm_judge_verdict.specs.CoreLaws.{pairs_rise_after}
use Rattle.cm_judge_verdict.specs.LackingLaws.{none_if}
use Rattle.cm_judge_verdict.specs.MemberLaws.{RisesBy-filter}
use Rattle.cm_judge_verdict.specs.PlaceLaws.{lines_rise}
use Rattle.cm_judge_verdict.specs.Rising.{RisesBy}
use Rattle.cm_judge_verdict.specs.Truth.{HaveRisingLines}
use Rattle.cm_judge_verdict.specs.Verdicts.{first_reason, least, lines_apart, lowest_overfull, not_lowest, other_count, overfull_reasons, reason_if}
use Rattle.cm_judge_verdict.specs.declared.verdict.Reason.{Reason}
use Rattle.cm_judge_verdict.specs.declared.verdict.Reason.TheVariants.{Count, NoBucket, NoPair}
use Rattle.cm_judge_verdict.specs.declared.verdict.Verdict.TheVariants.{Fails}
use Rattle.cm_spec.specs.declared.limits.TheConstants.{MAX_BUCKET}
use Rattle.cm_witness_gather.specs.Pairs.{pairs}
use Rattle.cm_witness_gather.specs.declared.certificate.Pair.{Pair}

-- the first of some reasons, if it is known whether the first one is there
pub first_fails : (r : Option Reason) (reason : Reason) (rs : List (Option Reason)) → r ≡ Some reason → first_reason (r ∷ rs) ≡ Fails reason
first_fails r reason rs is = ap (λ (o : Option Reason). first_reason (o ∷ rs)) is

pub first_passes : (r : Option Reason) (rs : List (Option Reason)) → r ≡ None → first_reason (r ∷ rs) ≡ first_reason rs
first_passes r rs is = ap (λ (o : Option Reason). first_reason (o ∷ rs)) is

-- of numbers that all pass a test, none passes one that never passes with it
none_found : (p q : ℕ → Bool) (xs : List ℕ) → ((x : ℕ) → p x ≡ true → q x ≡ false) → list_all p xs ≡ true → find q xs ≡ None
none_found p q [] apart all = refl
none_found p q (x ∷ xs) apart all = go (p x) refl all (none_found p q xs apart) where
  go : (b : Bool) → p x ≡ b → (b && list_all p xs) ≡ true → (list_all p xs ≡ true → find q xs ≡ None) → cond (q x) (Some x) (find q xs) ≡ None
  go true is all rest = rw (apart x is) (rest all)
  go false is all rest = absurd (cc)

-- a seed that splits the keys leaves no bucket overfull
pub none_overfull : (keys : List (ℕ × List ℕ)) (k split found : ℕ) → split_of keys k (split ∷ []) ≡ Some found → lowest_overfull keys k split ≡ None
none_overfull keys k split found is =
    none_found (λ j. leb (size_of_bucket keys k split j) MAX_BUCKET) (λ j. ltb MAX_BUCKET (size_of_bucket keys k split j)) (range_with_len 0 k)
    (λ j few. le-ltb MAX_BUCKET _ (leb-true _ MAX_BUCKET few)) (go (is_split keys k split) is)
  where
    go : (b : Bool) → ◌≡◌ {A = Option ℕ} (cond b (Some split) None) (Some found) → b ≡ true
    go true e = refl
    go false e = absurd (cc)

-- the lowest overfull bucket is another one
pub verdict_other : (keys : List (ℕ × List ℕ)) (k split low bucket size count : ℕ) (equal : List Pair) → IsLowestOver keys k split low size → low ≢ bucket → Fails NoBucket ≡ first_reason (overfull_reasons keys k split bucket count equal)
verdict_other keys k split low bucket size count equal over ne = sym (first_fails (not_lowest (lowest_overfull keys k split) bucket) NoBucket _ (ap (λ (o : Option ℕ). not_lowest o bucket) (lowest_is keys k split low size over) ∙ ap (λ (b : Bool). reason_if (not b) NoBucket) (ne_eqb low bucket ne)))

-- it is, with another number of keys
pub verdict_count : (keys : List (ℕ × List ℕ)) (k split bucket size count : ℕ) (equal : List Pair) → IsLowestOver keys k split bucket size → size ≢ count → Fails (Count size) ≡ first_reason (overfull_reasons keys k split bucket count equal)
verdict_count keys k split bucket size count equal over ne =
    sym (first_passes (not_lowest (lowest_overfull keys k split) bucket) _ (over_lowest keys k split bucket size over)
    ∙ first_fails (other_count (size_of_bucket keys k split bucket) count) (Count size) _ (ap (λ (n : ℕ). other_count n count) (sym over.is) ∙ ap (λ (b : Bool). reason_if (not b) (Count size)) (ne_eqb size count ne)))

-- it is, with this number of keys
pub verdict_pairs : (keys : List (ℕ × List ℕ)) (k split bucket count : ℕ) (equal : List Pair) (apart : Option ℕ) → IsLowestOver keys k split bucket count → apart ≡ least (lines_apart (pairs (keys_of_bucket keys k split bucket)) equal)
    → first_reason (option_map NoPair apart ∷ []) ≡ first_reason (overfull_reasons keys k split bucket count equal)
verdict_pairs keys k split bucket count equal apart over is =
    ap (λ (o : Option ℕ). first_reason (option_map NoPair o ∷ [])) is
    ∙ sym (first_passes (not_lowest (lowest_overfull keys k split) bucket) _ (over_lowest keys k split bucket count over)
    ∙ first_passes (other_count (size_of_bucket keys k split bucket) count) _ (none_if _ (Count (size_of_bucket keys k split bucket)) (ap not (eq-eqb _ count (sym over.is)))))

-- the pairs of equal keys of a bucket rise
pub pairs_rise_in : (keys : List (ℕ × List ℕ)) (k split bucket : ℕ) → HaveRisingLines keys → RisesBy (λ p. p.again) 0 (pairs (keys_of_bucket keys k split bucket))
pairs_rise_in keys k split bucket rise = pairs_rise_after [] (keys_of_bucket keys k split bucket) 0 (RisesBy-filter (λ (key : ℕ × List ℕ). key.0) _ 0 keys (lines_rise keys rise))
