-- What a store says of a record in a damaged spill: `expected` is the number that was expected, and `found` the one that was found.
use Rattle.std.specs.Prelude.{◌≡◌, ◌⊎◌, ◌<◌, ◌≤◌, ◌+◌, [], ℕ, length, None, Some, slice_index_or}
use Rattle.cm_spill.specs.Reading.{HasHeader, ArePast, RunLeft}
use Rattle.cm_spill.specs.Stores.{Store}
use Rattle.cm_spill.specs.declared.fault.SpillError.{SpillError}
use Rattle.cm_spill.specs.declared.fault.SpillError.TheVariants as faults
use Rattle.cm_spill.specs.declared.header.Header.{Header}

-- The ten bytes of the next header would pass the end of the run, so it isn't read.
pub record HeaderPassesRun (run : RunLeft) (expected found : ℕ) : Type 0 where
  pub some : run.next < run.until
  pub past : run.until < run.next + 10
  pub unread : run.header ≡ None
  pub numbers : (expected ≡ run.until) × (found ≡ run.next + 10)

-- The spill ended before the next header did: where its bytes would be read on, there are none.
pub record SpillEndsInHeader (run : RunLeft) (expected found : ℕ) : Type 0 where
  pub fits : run.next + 10 ≤ run.until
  pub unread : run.header ≡ None
  pub ended : (run.ahead.ready ≡ []) × (run.next ≤ run.ahead.at) × (run.ahead.at < run.next + 10)
  pub numbers : (expected ≡ run.until) × (found ≡ run.ahead.at)

-- By its header, the next record would pass the end of the run.
pub record RecordPassesRun (run : RunLeft) (expected found : ℕ) : Type 0 where
  pub header : Header
  pub read : run.header ≡ Some header
  pub fits : run.next + 10 ≤ run.until
  pub past : run.until < run.next + 10 + header.len
  pub numbers : (expected ≡ run.until) × (found ≡ run.next + 10 + header.len)

-- The next record, which ends within the run, is of a bucket below the one asked for.
pub record HasLowerBucket (run : RunLeft) (bucket expected found : ℕ) : Type 0 where
  pub header : Header
  pub read : run.header ≡ Some header
  pub within : run.next + 10 + header.len ≤ run.until
  pub below : header.bucket < bucket
  pub numbers : (expected ≡ bucket) × (found ≡ header.bucket)

-- It is of the bucket, but its line is below the least that may come.
pub record HasLowerLine (run : RunLeft) (bucket least expected found : ℕ) : Type 0 where
  pub header : Header
  pub read : run.header ≡ Some header
  pub within : run.next + 10 + header.len ≤ run.until
  pub same : header.bucket ≡ bucket
  pub below : header.line < least
  pub numbers : (expected ≡ least) × (found ≡ header.line)

-- The spill ended before the key of the next record did.
pub record SpillEndsInKey (run : RunLeft) (expected found : ℕ) : Type 0 where
  pub header : Header
  pub read : run.header ≡ Some header
  pub within : run.next + 10 + header.len ≤ run.until
  pub ended : (run.ahead.ready ≡ []) × (run.next + 10 ≤ run.ahead.at) × (run.ahead.at < run.next + 10 + header.len)
  pub numbers : (expected ≡ run.until) × (found ≡ run.ahead.at)

-- The header of the next record is refused, whatever is asked for.
abbrev pub IsWrongHeader : RunLeft → ℕ → ℕ → Type 0
IsWrongHeader run expected found = HeaderPassesRun run expected found ⊎ (SpillEndsInHeader run expected found ⊎ RecordPassesRun run expected found)

-- The header is refused where a record of the bucket from the least line on, or one of a higher bucket, may come.
abbrev pub IsWrongPlace : RunLeft → ℕ → ℕ → ℕ → ℕ → Type 0
IsWrongPlace run bucket least expected found = IsWrongHeader run expected found ⊎ (HasLowerBucket run bucket expected found ⊎ HasLowerLine run bucket least expected found)

-- The key is refused of a record of the bucket, from the least line on.
abbrev pub IsWrongKey : RunLeft → ℕ → ℕ → ℕ → ℕ → Type 0
IsWrongKey run bucket least expected found = HasHeader bucket least run.header × SpillEndsInKey run expected found

-- These are said of the next record of a run, at its offset. Other errors say nothing of it.
abbrev pub IsHeaderDamage : RunLeft → SpillError → Type 0
IsHeaderDamage run (faults.Damaged offset expected found) = (offset ≡ run.next) × IsWrongHeader run expected found
IsHeaderDamage run e = Unit {0}

abbrev pub IsPlaceDamage : RunLeft → ℕ → ℕ → SpillError → Type 0
IsPlaceDamage run bucket least (faults.Damaged offset expected found) = (offset ≡ run.next) × IsWrongPlace run bucket least expected found
IsPlaceDamage run bucket least e = Unit {0}

abbrev pub IsKeyDamage : RunLeft → SpillError → Type 0
IsKeyDamage run (faults.Damaged offset expected found) = (offset ≡ run.next) × SpillEndsInKey run expected found
IsKeyDamage run e = Unit {0}

-- the least line that may come next of the bucket that is asked for
abbrev pub least_of : Store → ℕ
least_of store = store.given_last + 1

-- The record that is refused is the next one of the run at which the store stands, and the runs before have no more of the bucket.
pub record IsRefused (store : Store) (bucket offset expected found : ℕ) : Type 0 where
  pub inside : store.at < length store.runs
  pub passed : ArePast bucket store.at store.runs
  pub there : (d : RunLeft) → offset ≡ (slice_index_or store.runs store.at d).next
  pub wrong : (d : RunLeft) → let run = slice_index_or store.runs store.at d in IsWrongPlace run bucket (least_of store) expected found ⊎ IsWrongKey run bucket (least_of store) expected found

-- If a store, as the call for a bucket left it, says that the spill is damaged, one of the six is said of the next record of its run.
abbrev pub IsDamageOf : Store → ℕ → SpillError → Type 0
IsDamageOf store bucket (faults.Damaged offset expected found) = IsRefused store bucket offset expected found
IsDamageOf store bucket e = Unit {0}
