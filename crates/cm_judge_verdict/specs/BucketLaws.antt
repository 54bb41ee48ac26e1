-- What the reasons about buckets say.
use Rattle.std.proofs.Common.{◌≡◌, ◌⊎◌, ℕ, zero, suc, ◌+◌, ◌<◌, ◌≤◌, Bool, true, false, cond, not, eqb, ltb, List, [], sym, refl, ap, ◌∙◌, subst, inl, inr, arith, Option, None, Some, IfSome}
use Rattle.std.specs.List.{find, range_with_len}
use Rattle.std.specs.Option.{option_eq}
use Rattle.std.proofs.lemmas.Bool.{cases_eq, eq-eqb, eqb-true, le-ltb, lt-ltb, ltb-false, ltb-true, or_from, or_parts}
use Rattle.cm_brz_func.specs.Splitting.{IsLowestOver, keys_of_bucket, size_of_bucket}
use Rattle.cm_judge_verdict.specs.Truth.{IsBucketIn, IsTrueOverfull}
use Rattle.cm_judge_verdict.specs.Verdicts.{first_reason, lowest_overfull, no_bucket, not_lowest, other_count, overfull_reasons}
use Rattle.cm_judge_verdict.specs.declared.verdict.Reason.TheVariants.{Count, NoBucket}
use Rattle.cm_judge_verdict.specs.declared.verdict.Verdict.TheVariants.{Holds}
use Rattle.cm_judge_verdict.specs.CoreLaws.{no_other_pairs, pairs_rise_after, same_pairs}
use Rattle.cm_judge_verdict.specs.LackingLaws.{first_holds, holds_first, if_none, none_if, option_equality}
use Rattle.cm_judge_verdict.specs.MemberLaws.{RisesBy-filter}
use Rattle.cm_judge_verdict.specs.Rising.{RisesBy}
use Rattle.cm_spec.specs.declared.limits.TheConstants.{MAX_BUCKET}
use Rattle.cm_witness_gather.specs.Pairs.{pairs}
use Rattle.cm_witness_gather.specs.declared.certificate.InBucket.{InBucket}
use Rattle.cm_witness_gather.specs.declared.certificate.Pair.{Pair}

not_back : (b : Bool) → not b ≡ false → b ≡ true
not_back true h = refl
not_back false h = absurd (cc)

-- the first number of a range that passes a test
pub record IsFound (p : ℕ → Bool) (from count found : ℕ) : Type 0 where
  pub low : from ≤ found
  pub high : found < from + count
  pub passes : p found ≡ true
  pub first : (i : ℕ) → from ≤ i → i < found → p i ≡ false

pub found_in : (p : ℕ → Bool) (a n j : ℕ) → find p (range_with_len a n) ≡ Some j → IsFound p a n j
found_in p a zero j h = absurd (cc)
found_in p a (suc n) j h = go (p a) refl h (found_in p (a + 1) n j) where
  go : (b : Bool) → p a ≡ b → cond b (Some a) (find p (range_with_len (a + 1) n)) ≡ Some j → (find p (range_with_len (a + 1) n) ≡ Some j → IsFound p (a + 1) n j) → IsFound p a (suc n) j
  go true is h ih =
      let e : a ≡ j = cc in
      record { low = omega arith; high = omega arith; passes = subst (λ z. p z ≡ true) e is; first = λ i l g. absurd (omega arith) }
  go false is h ih =
      let r : IsFound p (a + 1) n j = ih h in
      let above : a + 1 ≤ j = r.low in
      let below : j < a + 1 + n = r.high in
      record {
        low = omega arith;
        high = omega arith;
        passes = r.passes;
        first = λ i l g. elim (cases_eq i a) [ inl e ↦ ap p e ∙ is | inr ne ↦ r.first i (omega arith) g ];
      }

pub in_found : (p : ℕ → Bool) (a n j : ℕ) → IsFound p a n j → find p (range_with_len a n) ≡ Some j
in_found p a zero j f = absurd (omega (arith, f.low, f.high))
in_found p a (suc n) j f = go (cases_eq a j) (in_found p (a + 1) n j) where
  go : (a ≡ j) ⊎ (a ≡ j → ⊥) → (IsFound p (a + 1) n j → find p (range_with_len (a + 1) n) ≡ Some j) → cond (p a) (Some a) (find p (range_with_len (a + 1) n)) ≡ Some j
  go (inl e) ih = rw (ap p e ∙ f.passes) (ap (λ z. Some z) e)
  go (inr ne) ih =
      let fails : p a ≡ false = f.first a (omega arith) (omega (arith, f.low)) in
      rw fails (ih (record { low = omega (arith, f.low); high = omega (arith, f.high); passes = f.passes; first = λ i l g. f.first i (omega arith) g }))

-- the bucket of a 2-core
pub bucket_in : (place : Option InBucket) (buckets size : ℕ) → no_bucket place buckets size ≡ None → IfSome place (IsBucketIn buckets size)
bucket_in None buckets size h = tt
bucket_in (Some p) buckets size h =
    let both = or_parts _ _ (if_none _ NoBucket h) in
    (ltb-true p.bucket buckets (not_back _ both.0), ltb-false MAX_BUCKET size both.1)

pub in_bucket : (place : Option InBucket) (buckets size : ℕ) → IfSome place (IsBucketIn buckets size) → no_bucket place buckets size ≡ None
in_bucket None buckets size h = refl
in_bucket (Some p) buckets size h =
    let there : not (ltb p.bucket buckets) ≡ false = ap not (lt-ltb p.bucket buckets h.0) in
    none_if _ NoBucket (or_from _ _ there (le-ltb MAX_BUCKET size h.1))

-- the lowest overfull bucket
pub lowest_over : (keys : List (ℕ × List ℕ)) (k split bucket count : ℕ) → not_lowest (lowest_overfull keys k split) bucket ≡ None → other_count (size_of_bucket keys k split bucket) count ≡ None → IsLowestOver keys k split bucket count
lowest_over keys k split bucket count low same =
    let test : ℕ → Bool = λ j. ltb MAX_BUCKET (size_of_bucket keys k split j) in
    let found : lowest_overfull keys k split ≡ Some bucket = option_equality.to _ _ (not_back _ (if_none _ NoBucket low)) in
    let is : IsFound test 0 k bucket = found_in test 0 k bucket found in
    let size : size_of_bucket keys k split bucket ≡ count = eqb-true _ _ (not_back _ (if_none _ (Count (size_of_bucket keys k split bucket)) same)) in
    let over : MAX_BUCKET < size_of_bucket keys k split bucket = ltb-true MAX_BUCKET _ is.passes in
    record {
      within = omega (arith, is.high);
      is = sym size;
      over = subst (λ n. MAX_BUCKET < n) size over;
      lowest = λ j h. ltb-false MAX_BUCKET _ (is.first j (omega arith) h);
    }

pub lowest_is : (keys : List (ℕ × List ℕ)) (k split bucket count : ℕ) → IsLowestOver keys k split bucket count → lowest_overfull keys k split ≡ Some bucket
lowest_is keys k split bucket count over =
    let test : ℕ → Bool = λ j. ltb MAX_BUCKET (size_of_bucket keys k split j) in
    in_found test 0 k bucket (record {
      low = omega arith;
      high = omega (arith, over.within);
      passes = lt-ltb MAX_BUCKET _ (subst (λ n. MAX_BUCKET < n) over.is over.over);
      first = λ j l h. le-ltb MAX_BUCKET _ (over.lowest j h);
    })

pub over_lowest : (keys : List (ℕ × List ℕ)) (k split bucket count : ℕ) → IsLowestOver keys k split bucket count → not_lowest (lowest_overfull keys k split) bucket ≡ None
over_lowest keys k split bucket count over = none_if _ NoBucket (ap not (ap (λ (o : Option ℕ). option_eq eqb o (Some bucket)) (lowest_is keys k split bucket count over) ∙ eq-eqb bucket bucket refl))

-- the report on an overfull bucket holds exactly if it is true
pub overfull_true : (keys : List (ℕ × List ℕ)) (k split bucket count : ℕ) (equal : List Pair) → RisesBy (λ key. key.0) 0 keys → RisesBy (λ p. p.again) 1 equal → first_reason (overfull_reasons keys k split bucket count equal) ≡ Holds → IsTrueOverfull keys k split bucket count equal
overfull_true keys k split bucket count equal rise pairs_rise h =
    let own : List (ℕ × List ℕ) = keys_of_bucket keys k split bucket in
    let a = first_holds _ _ h in
    let b = first_holds _ _ a.1 in
    let c = first_holds _ _ b.1 in
    record {
      lowest = lowest_over keys k split bucket count a.0 b.0;
      equal_are = same_pairs equal (pairs own) pairs_rise (pairs_rise_after [] own 0 (RisesBy-filter (λ (key : ℕ × List ℕ). key.0) _ 0 keys rise)) c.0;
    }

pub true_overfull : (keys : List (ℕ × List ℕ)) (k split bucket count : ℕ) (equal : List Pair) → IsTrueOverfull keys k split bucket count equal → first_reason (overfull_reasons keys k split bucket count equal) ≡ Holds
true_overfull keys k split bucket count equal holds =
    let size : ℕ = size_of_bucket keys k split bucket in
    let same : not (eqb size count) ≡ false = ap not (eq-eqb size count (sym holds.lowest.is)) in
    holds_first _ _ (over_lowest keys k split bucket count holds.lowest)
    (holds_first _ _ (none_if _ (Count size) same)
    (holds_first _ _ (no_other_pairs equal (pairs (keys_of_bucket keys k split bucket)) holds.equal_are) refl))
