-- Records: keys with their values, as lines and as bytes.
use Rattle.std.specs.Prelude.{ℕ, zero, suc, ◌+◌, ◌==◌, nat_eq, nat_lt, nat_le, List, [], ◌∷◌, ◌++◌, length, take, drop, flat_map, map, Option, None, Some, if◌then◌else◌}
use Rattle.std.specs.List.{after_first, before_first}
use Rattle.std.specs.Int.{from_le_bytes, to_le_bytes, w16}
use Rattle.std.specs.Cmp.Lexicographic.{pointwise}
use Rattle.std.specs.Option.{option_map_or}
use Rattle.cm_store_records.specs.declared.limits.TheConstants.{HEAD_LEN, MAX_RECORD_BYTES, TAB}

pub record Record : Type 0 where
  pub key : List ℕ
  pub value : List ℕ

-- the record of a line: its key stands before its first tab, and its value after that; a line without a tab is a key with an empty value
abbrev pub record_of : List ℕ → Record
record_of line = record { key = before_first (λ b. b == TAB) line; value = after_first (λ b. b == TAB) line }

-- the records of numbered lines
abbrev pub records_of_lines : List (ℕ × List ℕ) → List Record
records_of_lines lines = map (λ line. record_of line.1) lines

-- the same lines with their keys alone
abbrev pub keys_of_lines : List (ℕ × List ℕ) → List (ℕ × List ℕ)
keys_of_lines lines = map (λ line. (line.0, (record_of line.1).key)) lines

-- how many bytes a record has
abbrev pub record_size : Record → ℕ
record_size r = HEAD_LEN + length r.key + length r.value

-- which they are: the lengths of key and value, two bytes each, the key, and the value
abbrev pub record_bytes : Record → List ℕ
record_bytes r = to_le_bytes w16 (length r.key) ++ (to_le_bytes w16 (length r.value) ++ (r.key ++ r.value))

abbrev pub bytes_of : List Record → List ℕ
bytes_of records = flat_map record_bytes records

-- the line of the first record that ends more than `MAX_RECORD_BYTES` bytes after the start of the records, if one does; this many bytes
-- come before
abbrev pub first_large : ℕ → List (ℕ × List ℕ) → Option ℕ
first_large before [] = None
first_large before (line ∷ lines) =
    let now = before + record_size (record_of line.1) in
    if nat_lt MAX_RECORD_BYTES now then Some line.0 else first_large now lines

-- the record with which bytes begin that say the lengths of its key and its value, if it is whole
abbrev pub record_with : ℕ → ℕ → List ℕ → Option Record
record_with key value bytes =
    if nat_le (HEAD_LEN + key + value) (length bytes) then Some (record { key = take key (drop HEAD_LEN bytes); value = take value (drop (HEAD_LEN + key) bytes) }) else None

-- the record with which bytes begin, if they begin with a whole one
unfoldable pub first_record : List ℕ → Option Record
first_record bytes = if nat_le HEAD_LEN (length bytes) then record_with (from_le_bytes w16 (take 2 bytes)) (from_le_bytes w16 (take 2 (drop 2 bytes))) bytes else None

-- the first records of bytes, at most n of them, up to one that isn't whole
unfoldable pub records_in : ℕ → List ℕ → List Record
records_in zero bytes = []
records_in (suc n) bytes = option_map_or (λ r. r ∷ records_in n (drop (record_size r) bytes)) (first_record bytes) []

-- the value of the first record with this key, if there is one
abbrev pub value_in : List Record → List ℕ → Option (List ℕ)
value_in [] key = None
value_in (r ∷ records) key = if pointwise nat_eq r.key key then Some r.value else value_in records key
