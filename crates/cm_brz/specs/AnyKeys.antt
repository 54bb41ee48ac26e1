-- What the failures of a build by BRZ say of the keys, whether they are known or not.
use Rattle.std.specs.Prelude.{◌≡◌, ◌≢◌, ◌⊎◌, ℕ, ◌<◌, List, Contains, length, slice_index}
use Rattle.cm_brz_split.specs.Puts.{IsMiscount}
use Rattle.cm_spill.specs.declared.fault.SpillError.{SpillError}

-- Under a split by a seed of the list, a bucket, of k, had `first` keys in a pass and another number, `now`, in the last one. `Counted` and
-- `Gave` say that a pass gave it this many, by k, the split, the bucket and the number.
pub record IsOtherBucket (Counted Gave : ℕ → ℕ → ℕ → ℕ → Type 0) (k : ℕ) (seeds : List ℕ) (first now : ℕ) : Type 0 where
  pub split : ℕ
  pub bucket : ℕ
  pub seed_in : Contains seeds split
  pub within : bucket < k
  pub counted : Counted k split bucket first
  pub gave : Gave k split bucket now
  pub differs : first ≢ now

-- The store found this damage in a bucket, or returned another number of records than were put. `Damages` says what it may find in a
-- bucket; it gave `given` records of each, the last of which ends at the offset `end`.
pub record IsDamageIn (Damages : ℕ → SpillError → Type 0) (given : ℕ → ℕ) (end : ℕ) (sizes : List ℕ) (damage : SpillError) : Type 0 where
  pub bucket : ℕ
  pub within : bucket < length sizes
  pub found : Damages bucket damage ⊎ IsMiscount (slice_index sizes bucket) (given bucket) end damage

-- The last pass gave k buckets some numbers of keys, under a split by a seed of the list, and of these the damage is said. `Gave` says
-- that it gave such numbers, by k and the split, and `In` that the damage is one of this many records.
pub record HasDamage (Gave : List ℕ → ℕ → ℕ → Type 0) (In : List ℕ → SpillError → Type 0) (k : ℕ) (seeds : List ℕ) (damage : SpillError) : Type 0 where
  pub sizes : List ℕ
  pub split : ℕ
  pub seed_in : Contains seeds split
  pub long : length sizes ≡ k
  pub gave : Gave sizes k split
  pub found : In sizes damage
