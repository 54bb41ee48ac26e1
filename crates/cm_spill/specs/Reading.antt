-- Bytes of a spill that are read ahead, and a run that is read.
use Rattle.std.specs.Prelude.{◌≡◌, ◌⊎◌, ◌<◌, ◌≤◌, ◌+◌, ◌++◌, ◌∷◌, [], ℕ, List, length, drop, All, Option, None, Some, Result, Ok, Err, Bool, true, false, slice_index_or}
use Rattle.std.specs.List.{flat_map}
use Rattle.byteorder.specs.Endian.{little_number}
use Rattle.cm_spill.specs.Records.{Record, IsRecords, IsShort, encoded}
use Rattle.cm_spill.specs.declared.header.Header.{Header}
use Rattle.cm_spill.specs.declared.fault.SpillError.{SpillError}
use Rattle.cm_spill.specs.declared.fault.SpillError.TheVariants as faults

-- the offset of the next byte, the bytes from there on that were read, and how many are read at a time
pub record Position : Type 0 where
  pub at : ℕ
  pub ready : List ℕ
  pub room : ℕ

-- What was read are the bytes there.
abbrev pub IsAhead : List ℕ → Position → Type 0
IsAhead bytes p = (rest : List ℕ) × (drop p.at bytes ≡ p.ready ++ rest)

-- where a run ends; where its next record begins; the header of that, if it was read; and from where on its bytes are read
pub record RunLeft : Type 0 where
  pub until : ℕ
  pub next : ℕ
  pub header : Option Header
  pub ahead : Position

-- a run between two offsets of which nothing was read, and for which no bytes can be read ahead yet
abbrev pub new_run : ℕ → ℕ → RunLeft
new_run start until = record { until = until; next = start; header = None; ahead = record { at = start; ready = []; room = 0 } }

-- the end of the last of some runs, where the first begins at an offset
abbrev pub end_from : ℕ → List RunLeft → ℕ
end_from start [] = start
end_from start (run ∷ runs) = end_from run.until runs

-- A run ends where it did.
abbrev pub HasSameEnd : RunLeft → RunLeft → Type 0
HasSameEnd now before = now.until ≡ before.until

-- A run ends where it did, and its next record begins where it did.
abbrev pub IsStill : RunLeft → RunLeft → Type 0
IsStill now before = (now.until ≡ before.until) × (now.next ≡ before.next)

-- No record is left of a run, or the header of the next one, which was read, is of a higher bucket.
abbrev pub IsPast : ℕ → RunLeft → Option Header → Type 0
IsPast bucket run None = run.next ≡ run.until
IsPast bucket run (Some h) = bucket < h.bucket

-- This holds of the runs before a place.
abbrev pub ArePast : ℕ → ℕ → List RunLeft → Type 0
ArePast bucket at runs = (i : ℕ) (d : RunLeft) → i < at → IsPast bucket (slice_index_or runs i d) (slice_index_or runs i d).header

-- The header is the one that begins these bytes.
abbrev pub IsHeaderAt : List ℕ → Header → Type 0
IsHeaderAt bytes h = (10 ≤ length bytes) × (h.bucket ≡ little_number 4 bytes) × (h.line ≡ little_number 4 (drop 4 bytes)) × (h.len ≡ little_number 2 (drop 8 bytes))

-- A header is that of the first of these records.
abbrev pub IsHeaderOf : List Record → Header → Type 0
IsHeaderOf [] h = ⊥
IsHeaderOf (r ∷ rs) h = (h.bucket ≡ r.bucket) × (h.line ≡ r.line) × (h.len ≡ length r.key)

-- The header of the next record was read, and is of a bucket and of a line that may come.
abbrev pub HasHeader : ℕ → ℕ → Option Header → Type 0
HasHeader bucket least None = ⊥
HasHeader bucket least (Some h) = (h.bucket ≡ bucket) × (least ≤ h.line)

-- the line of the next record, whose header was read
abbrev pub IsLineOf : ℕ → Option Header → Type 0
IsLineOf line None = ⊥
IsLineOf line (Some h) = line ≡ h.line

-- What was read of the next record ends within the run.
abbrev pub IsWithin : RunLeft → Option Header → Type 0
IsWithin run None = run.ahead.at ≡ run.next
IsWithin run (Some h) = (run.ahead.at ≡ run.next + 10) × (run.next + 10 + h.len ≤ run.until)

-- where the bytes of a run are read on: at its next record, or after the header of it, if that was read
abbrev pub IsHeaderRead : List Record → RunLeft → Option Header → Type 0
IsHeaderRead records run None = run.ahead.at ≡ run.next
IsHeaderRead records run (Some h) = (run.ahead.at ≡ run.next + 10) × IsHeaderOf records h

-- These records are left of a run, which stands between others.
pub record AreLeft (bytes : List ℕ) (run : RunLeft) (records : List Record) : Type 0 where
  pub ahead : IsAhead bytes run.ahead
  pub header : IsHeaderRead records run run.header
  pub short : All IsShort records
  pub rest : List ℕ
  pub are : drop run.next bytes ≡ flat_map encoded records ++ rest
  pub until : run.next + length (flat_map encoded records) ≡ run.until
  pub inside : run.until ≤ length bytes
  pub before : List Record
  pub after : List Record
  pub all : IsRecords bytes (before ++ (records ++ after))
  pub place : run.next ≡ length (flat_map encoded before)

-- what was read of the next record
abbrev pub Peeks : List Record → Result (Option Header) SpillError → Type 0
Peeks records (Ok (Some h)) = IsHeaderOf records h
Peeks records (Ok None) = records ≡ []
Peeks records (Err faults.Memory) = ⊥
Peeks records (Err faults.Failed) = Unit {0}
Peeks records (Err (faults.Damaged offset expected found)) = ⊥

-- The next record is of a bucket, and its line no less than the least.
abbrev pub IsNextOf : ℕ → ℕ → List Record → Type 0
IsNextOf bucket least [] = ⊥
IsNextOf bucket least (r ∷ rs) = (r.bucket ≡ bucket) × (least ≤ r.line)

-- There is no next record, or it is of a higher bucket.
abbrev pub IsPassed : ℕ → List Record → Type 0
IsPassed bucket [] = Unit {0}
IsPassed bucket (r ∷ rs) = bucket < r.bucket

-- The next record is of a lower bucket, or of this one and its line less than the least.
abbrev pub IsBelow : ℕ → ℕ → List Record → Type 0
IsBelow bucket least [] = ⊥
IsBelow bucket least (r ∷ rs) = (r.bucket < bucket) ⊎ ((r.bucket ≡ bucket) × (r.line < least))

-- what was found of the next record
abbrev pub Finds : ℕ → ℕ → List Record → Result Bool SpillError → Type 0
Finds bucket least records (Ok true) = IsNextOf bucket least records
Finds bucket least records (Ok false) = IsPassed bucket records
Finds bucket least records (Err faults.Memory) = ⊥
Finds bucket least records (Err faults.Failed) = Unit {0}
Finds bucket least records (Err (faults.Damaged offset expected found)) = IsBelow bucket least records

-- what was taken: the first record, by its line and its key, and these are left
abbrev pub Takes : List Record → List Record → List ℕ → Result ℕ SpillError → Type 0
Takes [] left key result = ⊥
Takes (r ∷ rs) left key (Ok line) = (line ≡ r.line) × (key ≡ r.key) × (left ≡ rs)
Takes (r ∷ rs) left key (Err faults.Memory) = ⊥
Takes (r ∷ rs) left key (Err faults.Failed) = Unit {0}
Takes (r ∷ rs) left key (Err (faults.Damaged offset expected found)) = ⊥
