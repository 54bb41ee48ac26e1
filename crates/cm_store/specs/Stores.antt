-- Stores of records: an index of their keys by BDZ, where each record stands, and the bytes of the records.
use Rattle.std.specs.Prelude.{◌≡◌, ◌≤◌, ◌+◌, ◌==◌, ℕ, zero, suc, nat_eq, nat_lt, List, [], ◌∷◌, length, drop, slice_index, Option, None, Some, if◌then◌else◌}
use Rattle.std.specs.Option.{option_and_then, option_eq, option_map_or}
use Rattle.cm_bdz.specs.Functions.{Bdz, bdz_answer}
use Rattle.cm_bdz.specs.Numbering.{bdz_under}
use Rattle.cm_bits.specs.Bound.{AllBelow}
use Rattle.cm_spec.specs.Lists.{list_of}
use Rattle.cm_spec.specs.declared.limits.TheConstants.{MAX_KEYS}
use Rattle.cm_store_records.specs.Records.{Record, bytes_of, first_record, keys_of_lines, record_size, records_in, records_of_lines, value_in}
use Rattle.cm_store_records.specs.declared.limits.TheConstants.{MAX_RECORD_BYTES}

-- A store. Its places are the offsets of the records by the answers of their keys.
pub record Store : Type 0 where
  pub index : Bdz
  pub places : List ℕ
  pub bytes : List ℕ

-- its records, in order
abbrev pub records_of : Store → List Record
records_of s = records_in s.index.keys s.bytes

-- the value of a key, if a record has it
abbrev pub look : Store → List ℕ → Option (List ℕ)
look s key = value_in (records_of s) key

-- a place, if there is one for this number
abbrev pub place_at : List ℕ → ℕ → Option ℕ
place_at places v = if nat_lt v (length places) then Some (slice_index places v) else None

-- the offset at which the record of a key is looked up
abbrev pub offset_of : Store → List ℕ → Option ℕ
offset_of s key = option_and_then (place_at s.places) (bdz_answer s.index key)

-- The first offset at which something is wrong with bytes that n records are to be, the first of them at the given offset: a record isn't
-- whole or is missing, or its key is looked up elsewhere, or bytes follow the last.
unfoldable pub first_bad : (List ℕ → Option ℕ) → ℕ → ℕ → List ℕ → Option ℕ
first_bad offset at zero bytes = if length bytes == 0 then None else Some at
first_bad offset at (suc n) bytes =
    option_map_or (λ r. if option_eq nat_eq (offset r.key) (Some at) then first_bad offset (at + record_size r) n (drop (record_size r) bytes) else Some at) (first_record bytes) (Some at)

-- the first offset at which something is wrong with the bytes of a store
abbrev pub bad_record : Store → Option ℕ
bad_record s = first_bad (offset_of s) 0 s.index.keys s.bytes

-- There is a place for each key, below the number of bytes, and nothing is wrong with the bytes.
pub record IsStore (s : Store) : Type 0 where
  pub keys : (1 ≤ s.index.keys) × (s.index.keys ≤ MAX_KEYS)
  pub size : (1 ≤ length s.bytes) × (length s.bytes ≤ MAX_RECORD_BYTES)
  pub places : length s.places ≡ s.index.keys
  pub below : AllBelow (length s.bytes) s.places
  pub sound : bad_record s ≡ None

-- the offset of the first record whose key has this answer; the first record of all is at the given offset
unfoldable pub place_for : (List ℕ → Option ℕ) → ℕ → ℕ → List Record → ℕ
place_for answer v at [] = at
place_for answer v at (r ∷ records) = if option_eq nat_eq (answer r.key) (Some v) then at else place_for answer v (at + record_size r) records

-- the offsets of records by the answers of their keys
abbrev pub places_of : Bdz → List Record → List ℕ
places_of index records = list_of (λ v. place_for (bdz_answer index) v 0 records) (length records)

-- the store of the records of numbered lines, with the index of their keys under a seed
abbrev pub store_under : List (ℕ × List ℕ) → ℕ → ℕ → ℕ → Store
store_under lines c seed shift =
    let index = bdz_under (keys_of_lines lines) c seed shift in
    record { index = index; places = places_of index (records_of_lines lines); bytes = bytes_of (records_of_lines lines) }
