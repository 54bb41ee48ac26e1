-- Keys that wait for the build of their buckets.
use Rattle.std.specs.Prelude.{◌≡◌, ℕ, ◌==◌, List, [], ◌∷◌, drop, filter, Option, None, Some}
pub use Rattle.cm_spill.specs.Records.{Record}

-- the records of a bucket, in their order
abbrev pub records_of : ℕ → List Record → List Record
records_of bucket records = filter (λ r. r.bucket == bucket) records

-- the next of a bucket's records after this many of them, with its line and its key, or none exactly if none is left
abbrev pub GivesRecord : List Record → ℕ → ℕ → List ℕ → Option ℕ → ℕ → Type 0
GivesRecord records bucket before key None now = drop before (records_of bucket records) ≡ []
GivesRecord records bucket before key (Some line) now = drop before (records_of bucket records) ≡ record { bucket = bucket; line = line; key = key } ∷ drop now (records_of bucket records)
