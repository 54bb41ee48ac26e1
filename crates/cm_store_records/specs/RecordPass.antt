-- The pass over the keys of records in memory.
use Rattle.std.specs.Prelude.{◌≡◌, ◌<◌, ◌≤◌, ◌+◌, ◌-◌, ℕ, List, ◌∷◌, length, map, drop, slice_index_or, All}
use Rattle.std.specs.List.{zip}
use Rattle.cm_spec.specs.declared.limits.TheConstants.{MAX_KEYS}
use Rattle.cm_store_records.specs.Records.{Record, bytes_of, records_in}
use Rattle.cm_store_records.specs.declared.limits.TheConstants.{MAX_RECORD_BYTES}

-- keys with their lines, and how many of them the pass has yielded
pub record RecordPass : Type 0 where
  pub keys : List (ℕ × List ℕ)
  pub given : ℕ

-- the line before a place, and 0 before the first
abbrev pub line_before : List ℕ → ℕ → ℕ
line_before lines place = slice_index_or (0 ∷ lines) place 0

-- each line is later than the one before it
abbrev pub LinesRise : List ℕ → Type 0
LinesRise lines = (i : ℕ) → i < length lines → line_before lines i < line_before lines (i + 1)

-- the keys of the records that bytes begin with, one for each of these lines
abbrev pub keyed : List ℕ → List ℕ → List (ℕ × List ℕ)
keyed lines bytes = zip lines (map (λ r. r.key) (records_in (length lines) bytes))

-- Bytes begin with a whole record for each of these rising lines.
pub record AreRecords (lines bytes : List ℕ) : Type 0 where
  pub whole : length (records_in (length lines) bytes) ≡ length lines
  pub rise : LinesRise lines
  pub few : length lines ≤ MAX_KEYS

-- Some of them were passed, and the next begins at this offset.
pub record IsRecordPass (lines bytes : List ℕ) (given at : ℕ) : Type 0 where
  pub records : AreRecords lines bytes
  pub within : given ≤ length lines
  pub inside : at ≤ length bytes
  pub next : records_in (length lines - given) (drop at bytes) ≡ drop given (records_in (length lines) bytes)

-- two bytes hold the lengths of its key and its value
abbrev pub IsSmall : Record → Type 0
IsSmall r = (length r.key < 65536) × (length r.value < 65536)

-- The bytes are those of one record for each of these lines, and no more than a store may have.
pub record HoldsRecords (lines bytes : List ℕ) : Type 0 where
  pub records : AreRecords lines bytes
  pub all : bytes_of (records_in (length lines) bytes) ≡ bytes
  pub small : All IsSmall (records_in (length lines) bytes)
  pub size : length bytes ≤ MAX_RECORD_BYTES
