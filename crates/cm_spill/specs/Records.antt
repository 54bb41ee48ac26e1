-- Records of a spill: a key with its line, in a bucket.
use Rattle.std.specs.Prelude.{◌≡◌, ◌<◌, ◌^◌, ◌+◌, ◌++◌, ◌∷◌, ℕ, List, Bool, length, eqb, All, filter}
use Rattle.std.specs.List.{flat_map}
use Rattle.std.specs.List.Sorted.{IsPermutation, IsNonDecreasingBy}
use Rattle.byteorder.specs.Endian.{little_bytes}

pub record Record : Type 0 where
  pub bucket : ℕ
  pub line : ℕ
  pub key : List ℕ

-- the bytes of a record: bucket and line of four bytes, the key's length of two, each with its lowest byte first, and the key
unfoldable pub encoded : Record → List ℕ
encoded r = little_bytes 4 r.bucket ++ little_bytes 4 r.line ++ little_bytes 2 (length r.key) ++ r.key

-- the number of these bytes
abbrev pub size : Record → ℕ
size r = 10 + length r.key

-- Its numbers have these bytes.
pub record IsShort (r : Record) : Type 0 where
  pub bucket : r.bucket < 2 ^ 32
  pub line : r.line < 2 ^ 32
  pub key : length r.key < 2 ^ 16

-- The bytes are those of the records, one after another.
pub record IsRecords (bytes : List ℕ) (records : List Record) : Type 0 where
  pub are : bytes ≡ flat_map encoded records
  pub short : All IsShort records

-- The bytes are those of some records, and this one of them ends at an offset.
abbrev pub EndsAt : List ℕ → Record → ℕ → Type 0
EndsAt bytes r end = (before : List Record) × (after : List Record) × IsRecords bytes (before ++ r ∷ after) × (end ≡ length (flat_map encoded before) + size r)

-- the test whether a record is of this bucket
abbrev pub is_of : ℕ → Record → Bool
is_of bucket r = eqb r.bucket bucket

-- The same records, those of each bucket in the same order.
pub record IsArranged (records others : List Record) : Type 0 where
  pub same : IsPermutation records others
  pub each : (bucket : ℕ) → filter (is_of bucket) others ≡ filter (is_of bucket) records

-- A run of some records: the same ones by rising bucket, those of a bucket in the order in which they stood.
pub record IsRun (records run : List Record) : Type 0 where
  pub order : IsArranged records run
  pub sorted : IsNonDecreasingBy (λ r. r.bucket) run
