-- A store of records over a spill, as contracts see it.
use Rattle.std.specs.Prelude.{◌≡◌, ◌≢◌, ◌⊎◌, ◌<◌, ◌≤◌, ◌+◌, ◌++◌, ◌∷◌, [], ℕ, List, Option, None, Some, Result, Ok, Err, Bool, true, false, eqb, if◌then◌else◌, All, filter, drop, map}
use Rattle.std.specs.Option.{ForSome}
use Rattle.std.specs.List.{AllZip, sum_by}
use Rattle.std.specs.List.Sorted.{IsPermutation, IsStrictlyIncreasing}
use Rattle.cm_io.specs.Causes.{Rose}
use Rattle.cm_spill.specs.Records.{Record, IsRecords, is_of, size}
use Rattle.cm_spill.specs.Reading.{IsStill, RunLeft, end_from, new_run}
use Rattle.cm_spill.specs.declared.fault.SpillError.{SpillError}
use Rattle.cm_spill.specs.declared.fault.SpillError.TheVariants as faults

-- what the spill holds, if known, and its count of faults; how many bytes may wait; the records that wait, those of each bucket in the
-- order in which they were put; the line put last, or 0; whether no call has failed; whether all was put; the bucket asked last, or 0;
-- how many of its records were given; the line of the last of them, or 0; whether it was found to have no more; the offset after that
-- record, or 0; how far the runs in the spill were read; and at which of them the store stands
pub record Store : Type 0 where
  pub known : Option (List ℕ)
  pub faults : ℕ
  pub bytes : ℕ
  pub waiting : List Record
  pub last : ℕ
  pub usable : Bool
  pub sealed : Bool
  pub bucket : ℕ
  pub given : ℕ
  pub given_last : ℕ
  pub ended : Bool
  pub read_end : ℕ
  pub runs : List RunLeft
  pub at : ℕ

-- a store in which nothing was put
abbrev pub new_store : Option (List ℕ) → ℕ → ℕ → Store
new_store known faults bytes = record { known = known; faults = faults; bytes = bytes; waiting = []; last = 0; usable = true; sealed = false; bucket = 0; given = 0; given_last = 0; ended = false; read_end = 0; runs = []; at = 0 }

-- the bytes of the records that wait
abbrev pub held_by : Store → ℕ
held_by store = sum_by size store.waiting

-- the runs of a store and one more, which begins where the last one ends and has the bytes of the records that wait; nothing was read of it
abbrev pub runs_and_next : Store → List RunLeft
runs_and_next store = let start = end_from 0 store.runs in store.runs ++ new_run start (start + held_by store) ∷ []

-- What waited before was written as a run more, and it is known where this run ends.
pub record IsRunWritten (before now : Store) : Type 0 where
  pub none : now.waiting ≡ []
  pub runs : AllZip IsStill now.runs (runs_and_next before)

-- The records put, in the order of their lines, are those in the spill's bytes and those that wait, each once. Of each bucket, they stand
-- there in that order too.
pub record AreHeld (bytes : List ℕ) (store : Store) (puts : List Record) : Type 0 where
  pub written : List Record
  pub records : IsRecords bytes written
  pub same : IsPermutation (written ++ store.waiting) puts
  pub each : (bucket : ℕ) → filter (is_of bucket) (written ++ store.waiting) ≡ filter (is_of bucket) puts
  pub rising : IsStrictlyIncreasing (map (λ r. r.line) puts)
  pub lines : All (λ r. (0 < r.line) × (r.line ≤ store.last)) puts

-- The store holds these records, if the spill's bytes are known.
abbrev pub Holds : Store → List Record → Type 0
Holds store puts = ForSome store.known (λ bytes. AreHeld bytes store puts)

-- The bucket may be asked for: the one asked last, or the next one after its end.
abbrev pub IsNextBucket : Store → ℕ → Type 0
IsNextBucket store bucket = (bucket ≡ store.bucket) ⊎ ((bucket ≡ store.bucket + 1) × (store.ended ≡ true))

-- how many records of a bucket were given
abbrev pub given_of : Store → ℕ → ℕ
given_of store bucket = if eqb bucket store.bucket then store.given else 0

-- the line of the last of them, or 0 if none was given
abbrev pub given_last_of : Store → ℕ → ℕ
given_last_of store bucket = if eqb bucket store.bucket then store.given_last else 0

-- the offset after the record of a bucket that was given last
abbrev pub read_end_of : Store → ℕ → ℕ
read_end_of store bucket = if eqb bucket store.bucket then store.read_end else 0

-- the records of a bucket that are left after some were given
abbrev pub left_of : List Record → ℕ → ℕ → List Record
left_of puts bucket given = drop given (filter (is_of bucket) puts)

-- Of the records that are left the first one was found, by its line and its key, and more are left; or none is left.
abbrev pub GivesNext : ℕ → List Record → List Record → List ℕ → Option ℕ → Type 0
GivesNext bucket left more key (Some line) = left ≡ record { bucket = bucket; line = line; key = key } ∷ more
GivesNext bucket left more key None = (left ≡ []) × (more ≡ [])

-- A call returns `Failed` exactly if the count of the spill's faults rose.
abbrev pub HasSpillCause : {T : Type 0} → ℕ → ℕ → Result T SpillError → Type 0
HasSpillCause before now (Ok x) = now ≡ before
HasSpillCause before now (Err faults.Memory) = now ≡ before
HasSpillCause before now (Err faults.Failed) = (before ≤ now) × Rose before now
HasSpillCause before now (Err (faults.Damaged offset expected found)) = now ≡ before

-- The spill isn't said to be damaged.
abbrev pub IsOfWriting : SpillError → Type 0
IsOfWriting (faults.Damaged offset expected found) = ⊥
IsOfWriting e = Unit {0}

-- Memory did not run out. If the spill is said to be damaged, two numbers differ.
abbrev pub IsOfReading : SpillError → Type 0
IsOfReading faults.Memory = ⊥
IsOfReading faults.Failed = Unit {0}
IsOfReading (faults.Damaged offset expected found) = (expected ≢ found)
