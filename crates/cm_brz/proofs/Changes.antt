-- From what the passes gave to what a failure says of them.
use Rattle.std.proofs.Common.{◌≡◌, ◌≢◌, ◌∙◌, ◌⊎◌, ℕ, List, length, inl, inr, subst}
use Rattle.std.specs.Prelude.{Contains}
use Rattle.cm_brz.specs.AnyKeys.{HasDamage, IsOtherBucket}
use Rattle.cm_brz_func.specs.Functions.{bucket_count}
use Rattle.cm_brz_split.specs.Faults.{IfChanged}
use Rattle.cm_brz_split.specs.FaultsLaws.{changed_weaker}
use Rattle.cm_brz_split.specs.declared.fault.BrzFault.{BrzFault}
use Rattle.cm_brz_split.specs.Given.{CountedBucket, CountedOver, GaveCount, GaveOther, GaveSizes}
use Rattle.cm_spill.specs.declared.fault.SpillError.{SpillError}
use Rattle.cm_io.specs.PassFaults.{HasPassed, IsOtherCount}

-- the number of an overfull bucket, as one pass counted it, and as the last one gave it
pub over_other : {P : Type 0} (at_end : P → Type 0) (gave : P → List (ℕ × List ℕ) → Type 0) (Gave : List (ℕ × List ℕ) → Type 0) (k split bucket count first now : ℕ) (seeds : List ℕ) → Contains seeds split → CountedOver at_end gave k split bucket count
    → (first ≡ count) × (first ≢ now) × GaveCount Gave k split bucket now → IsOtherBucket (CountedBucket at_end gave) (GaveCount Gave) k seeds first now
over_other at_end gave Gave k split bucket count first now seeds from counted other = record {
  split = split;
  bucket = bucket;
  seed_in = from;
  within = counted.over.lowest.within;
  counted = record {
    state = counted.state;
    ended = counted.ended;
    gave_count = record { keys = counted.over.keys; given = counted.over.given; count_is = other.0 ∙ counted.over.lowest.is };
  };
  gave = other.2;
  differs = other.1;
}

-- the number of a bucket, as the pass of the split counted it, and as the last one gave it
pub size_other : {P : Type 0} (at_end : P → Type 0) (gave : P → List (ℕ × List ℕ) → Type 0) (state : P) (Gave : List (ℕ × List ℕ) → Type 0) (sizes : List ℕ) (k split first now : ℕ) (seeds : List ℕ) → Contains seeds split → at_end state → GaveSizes (gave state) sizes k split
    → GaveOther Gave sizes k split first now → IsOtherBucket (CountedBucket at_end gave) (GaveCount Gave) k seeds first now
size_other at_end gave state Gave sizes k split first now seeds from ended counted other = record {
  split = split;
  bucket = other.bucket;
  seed_in = from;
  within = other.within;
  counted = record {
    state = state;
    ended = ended;
    gave_count = record { keys = counted.keys; given = counted.given; count_is = other.first_is ∙ counted.sizes_are other.bucket other.within };
  };
  gave = other.gave;
  differs = other.differs;
}

-- the buckets are as many as the keys that were counted ask for
pub other_at : (Counted Gave : ℕ → ℕ → ℕ → ℕ → Type 0) (k n m place : ℕ) (seeds : List ℕ) (first now : ℕ) → k ≡ n → ((first ≡ m) × IsOtherCount first now place) ⊎ IsOtherBucket Counted Gave k seeds first now → ((first ≡ m) × IsOtherCount first now place) ⊎ IsOtherBucket Counted Gave n seeds first now
other_at Counted Gave k n m place seeds first now same other = subst (λ (x : ℕ). ((first ≡ m) × IsOtherCount first now place) ⊎ IsOtherBucket Counted Gave x seeds first now) same other

-- one of two reasons, the second of which says more
pub other_weaker : (A B C : Type 0) → (B → C) → A ⊎ B → A ⊎ C
other_weaker A B C more (inl h) = inl h
other_weaker A B C more (inr h) = inr (more h)

-- so it is after the keys were counted, and put
pub put_changed : {P : Type 0} (at_end : P → Type 0) (gave : P → List (ℕ × List ℕ) → Type 0) (place : P → ℕ) (counted chosen last : P) (sizes : List ℕ) (k b m split : ℕ) (seeds : List ℕ) (e : BrzFault) → at_end counted → place counted ≡ m → k ≡ bucket_count m b → Contains seeds split → at_end chosen → GaveSizes (gave chosen) sizes k split
    → IfChanged e (λ first now. ((first ≡ m) × IsOtherCount first now (place last)) ⊎ GaveOther (gave last) sizes k split first now)
    → IfChanged e (λ first now. (n : ℕ) × HasPassed at_end place n × (((first ≡ n) × IsOtherCount first now (place last)) ⊎ IsOtherBucket (CountedBucket at_end gave) (GaveCount (gave last)) (bucket_count n b) seeds first now))
put_changed at_end gave place counted chosen last sizes k b m split seeds e over many same from ended sized other =
    changed_weaker e (λ first now. ((first ≡ m) × IsOtherCount first now (place last)) ⊎ GaveOther (gave last) sizes k split first now)
    (λ first now. (n : ℕ) × HasPassed at_end place n × (((first ≡ n) × IsOtherCount first now (place last)) ⊎ IsOtherBucket (CountedBucket at_end gave) (GaveCount (gave last)) (bucket_count n b) seeds first now))
    (λ first now h.
    let passed : HasPassed at_end place m = (counted, over, many) in (
      m,
      passed,
      other_at (CountedBucket at_end gave) (GaveCount (gave last)) k (bucket_count m b) m (place last) seeds first now same
          (other_weaker ((first ≡ m) × IsOtherCount first now (place last)) (GaveOther (gave last) sizes k split first now) (IsOtherBucket (CountedBucket at_end gave) (GaveCount (gave last)) k seeds first now)
          (λ o. size_other at_end gave chosen (gave last) sizes k split first now seeds from ended sized o) h),
    )) other

-- a damage, with the numbers of keys of the buckets
pub has_damage : (Gave : List ℕ → ℕ → ℕ → Type 0) (In : List ℕ → SpillError → Type 0) (sizes all : List ℕ) (k n split : ℕ) (seeds : List ℕ) (damage : SpillError) → Contains seeds split → all ≡ sizes → length sizes ≡ n → k ≡ n → Gave sizes k split → In all damage → HasDamage Gave In n seeds damage
has_damage Gave In sizes all k n split seeds damage from same long is gave found = record {
  sizes = sizes;
  split = split;
  seed_in = from;
  long = long;
  gave = subst (λ (x : ℕ). Gave sizes x split) is gave;
  found = subst (λ (xs : List ℕ). In xs damage) same found;
}
