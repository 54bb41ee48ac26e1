-- Why a build by BRZ fails.
use Rattle.std.specs.Prelude.{◌≡◌, ◌≢◌, ℕ, ◌<◌, List, [], All, length, slice_index, is_some, true, None, Some}
use Rattle.cm_io.specs.Passes.{IsToldFault}
use Rattle.cm_algo_names.specs.declared.algorithm.Algorithm.TheVariants as algorithm
use Rattle.cm_brz.specs.BrzOf.{bucket_from}
use Rattle.cm_brz_func.specs.Splitting.{IsLowestOver, keys_of_bucket}
use Rattle.cm_brz_split.specs.Split.{split_of}
use Rattle.cm_brz_split.specs.declared.fault.BrzFault.{BrzFault}
use Rattle.cm_brz_split.specs.declared.fault.BrzFault.TheVariants.{Memory, NoKeys, Overfull, Cored, Key, Changed, SpillFailed, SpillDamaged}
use Rattle.cm_brz_func.specs.Functions.{bucket_count}
use Rattle.cm_spec.specs.declared.limits.TheConstants.{MAX_BUCKET}
use Rattle.cm_io.specs.Passes.{Told}
use Rattle.cm_algo_seeds.specs.Fails.{ShowsCore}
use Rattle.cm_spec.specs.Bdz.{bdz_rule}
use Rattle.cm_spec.specs.Built.{AllCored, first_seed}
use Rattle.cm_witness_gather.specs.Pairs.{pairs}
use Rattle.cm_witness_gather.specs.declared.certificate.Certificate.{Certificate}
use Rattle.cm_witness_gather.specs.declared.certificate.InBucket.{InBucket}
use Rattle.cm_witness_gather.specs.declared.certificate.Pair.{Pair}

-- every seed of the list leaves a bucket with more keys than one may have; under the first seed this is the lowest such bucket, with
-- its number of keys and the equal ones among them
pub record IsOverfull (keys : List (ℕ × List ℕ)) (k : ℕ) (seeds : List ℕ) (seed bucket count : ℕ) (equal : List Pair) : Type 0 where
  pub none : split_of keys k seeds ≡ None
  pub first : seed ≡ slice_index seeds 0
  pub lowest : IsLowestOver keys k seed bucket count
  pub equal_are : equal ≡ pairs (keys_of_bucket keys k seed bucket)

-- every seed of the list leaves a 2-core in the graph of a bucket's keys, and the certificate shows that of the first seed
pub record IsCoredIn (keys : List (ℕ × List ℕ)) (c : ℕ) (seeds : List ℕ) (place : InBucket) (made : Certificate) : Type 0 where
  pub shown : made.place ≡ Some place
  pub none : first_seed bdz_rule keys c seeds ≡ None
  pub cored : AllCored bdz_rule keys c seeds
  pub shows : ShowsCore bdz_rule keys c (slice_index seeds 0) made

-- the certificate is of the lowest bucket for which no seed of the list works
pub record IsCoredBucket (keys : List (ℕ × List ℕ)) (k c : ℕ) (seeds : List ℕ) (made : Certificate) : Type 0 where
  pub place : InBucket
  pub chosen : split_of keys k seeds ≡ Some place.split
  pub within : place.bucket < k
  pub earlier : (j : ℕ) → j < place.bucket → is_some (bucket_from (keys_of_bucket keys k place.split j) c seeds) ≡ true
  pub cored : IsCoredIn (keys_of_bucket keys k place.split place.bucket) c seeds place made

-- the failures of a build over known keys: the keys never change, and a failure depends on them alone
abbrev pub FailsBrz : Told → ℕ → ℕ → List ℕ → BrzFault → Type 0
FailsBrz told c b seeds Memory = Unit {0}
FailsBrz told c b seeds NoKeys = (told.keys ≡ []) × (told.fault ≡ None)
FailsBrz told c b seeds (Overfull seed bucket count equal) = (told.fault ≡ None) × IsOverfull told.keys (bucket_count (length told.keys) b) seeds seed bucket count equal.items
FailsBrz told c b seeds (Cored made) = (told.fault ≡ None) × IsCoredBucket told.keys (bucket_count (length told.keys) b) c seeds made
FailsBrz told c b seeds (Key fault) = IsToldFault told fault
FailsBrz told c b seeds (Changed first now) = ⊥
FailsBrz told c b seeds SpillFailed = Unit {0}
FailsBrz told c b seeds (SpillDamaged offset expected found) = Unit {0}

-- a seed of the list splits the keys, which are known and have no fault at their end
abbrev pub IsSplitKnown : Told → ℕ → List ℕ → Type 0
IsSplitKnown told b seeds = (told.fault ≡ None) × (told.keys ≢ []) × (is_some (split_of told.keys (bucket_count (length told.keys) b) seeds) ≡ true)

-- the failures over known keys, whatever is known of the spill: each comes only with these keys
abbrev pub FailsKeys : Told → ℕ → List ℕ → BrzFault → Type 0
FailsKeys told b seeds Memory = Unit {0}
FailsKeys told b seeds NoKeys = (told.keys ≡ []) × (told.fault ≡ None)
FailsKeys told b seeds (Overfull seed bucket count equal) = (told.fault ≡ None) × IsOverfull told.keys (bucket_count (length told.keys) b) seeds seed bucket count equal.items
FailsKeys told b seeds (Cored made) = IsSplitKnown told b seeds
FailsKeys told b seeds (Key fault) = IsToldFault told fault
FailsKeys told b seeds (Changed first now) = ⊥
FailsKeys told b seeds SpillFailed = IsSplitKnown told b seeds
FailsKeys told b seeds (SpillDamaged offset expected found) = IsSplitKnown told b seeds

-- what a failure has, whatever the keys are: numbers of `Changed` and of damage that differ, an overfull bucket of the first seed, and
-- a certificate of the first seed in a bucket, with three ends an edge
abbrev pub HasBrzForm : List ℕ → BrzFault → Type 0
HasBrzForm seeds (Overfull seed bucket count equal) = (seed ≡ slice_index seeds 0) × (MAX_BUCKET < count)
HasBrzForm seeds (Cored made) = (made.algorithm ≡ algorithm.Brz) × (made.seed ≡ slice_index seeds 0) × (is_some made.place ≡ true) × All (λ e. is_some e.third ≡ true) made.edges.items
HasBrzForm seeds (Changed first now) = first ≢ now
HasBrzForm seeds (SpillDamaged offset expected found) = expected ≢ found
HasBrzForm seeds fault = Unit {0}

-- the build of a bucket fails only for these reasons
abbrev pub FailsBucket : List (ℕ × List ℕ) → ℕ → List ℕ → InBucket → BrzFault → Type 0
FailsBucket keys c seeds place Memory = Unit {0}
FailsBucket keys c seeds place (Cored made) = HasBrzForm seeds (Cored made) × IsCoredIn keys c seeds place made
FailsBucket keys c seeds place fault = ⊥

-- the lowest bucket, of k, for which no seed of the list works; these are the keys of the buckets
pub record IsCoredAt (keys_of : ℕ → List (ℕ × List ℕ)) (k c split : ℕ) (seeds : List ℕ) (made : Certificate) : Type 0 where
  pub bucket : ℕ
  pub within : bucket < k
  pub earlier : (j : ℕ) → j < bucket → is_some (bucket_from (keys_of j) c seeds) ≡ true
  pub cored : IsCoredIn (keys_of bucket) c seeds (record { split = split; bucket = bucket }) made

-- the build of all buckets from a store with known contents fails only for these reasons
abbrev pub FailsBuckets : (ℕ → List (ℕ × List ℕ)) → ℕ → ℕ → ℕ → List ℕ → BrzFault → Type 0
FailsBuckets keys_of k c split seeds Memory = Unit {0}
FailsBuckets keys_of k c split seeds (Cored made) = IsCoredAt keys_of k c split seeds made
FailsBuckets keys_of k c split seeds SpillFailed = Unit {0}
FailsBuckets keys_of k c split seeds fault = ⊥

-- and from any store for these
abbrev pub HasBuildingForm : List ℕ → BrzFault → Type 0
HasBuildingForm seeds Memory = Unit {0}
HasBuildingForm seeds (Cored made) = HasBrzForm seeds (Cored made)
HasBuildingForm seeds SpillFailed = Unit {0}
HasBuildingForm seeds (SpillDamaged offset expected found) = expected ≢ found
HasBuildingForm seeds fault = ⊥

-- the store found a damage
abbrev pub IsDamage : BrzFault → Type 0
IsDamage (SpillDamaged offset expected found) = Unit {0}
IsDamage fault = ⊥

-- the failure for an overfull bucket, with this seed, bucket and number of keys, over known keys
abbrev pub RefusesOverfull : Told → ℕ → ℕ → ℕ → ℕ → BrzFault → Type 0
RefusesOverfull told k s j n Memory = Unit {0}
RefusesOverfull told k s j n (Overfull seed bucket count equal) = (seed ≡ s) × (bucket ≡ j) × (count ≡ n) × (equal.items ≡ pairs (keys_of_bucket told.keys k s j))
RefusesOverfull told k s j n (Key fault) = IsToldFault told fault
RefusesOverfull told k s j n fault = ⊥

-- and over any keys it fails only for these reasons
abbrev pub IsOfOverfull : BrzFault → Type 0
IsOfOverfull Memory = Unit {0}
IsOfOverfull (Overfull seed bucket count equal) = Unit {0}
IsOfOverfull (Key fault) = Unit {0}
IsOfOverfull (Changed first now) = Unit {0}
IsOfOverfull fault = ⊥
