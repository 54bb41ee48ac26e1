-- The file of a store: its bytes, and the store that bytes are the file of, or their first fault.
use Rattle.std.specs.Prelude.{ℕ, ◌+◌, ◌*◌, List, ◌++◌, length, nat_le, nat_lt, Option, None, Some, Result, Ok, Err, if◌then◌else◌}
use Rattle.std.specs.List.{position_or_len}
use Rattle.cm_bdz.specs.Functions.{Bdz}
use Rattle.cm_bits.specs.Fault.{plain_cell}
use Rattle.cm_dump.specs.Dumps.{dump_of}
use Rattle.cm_dump.specs.Spelling.{spelling_of}
use Rattle.cm_dump_items.specs.declared.fault.LoadFault.{LoadFault}
use Rattle.cm_dump_items.specs.Reading.{end_at, item_at}
use Rattle.cm_func.specs.declared.function.Func.{Func}
use Rattle.cm_func.specs.declared.function.Func.TheVariants as func
use Rattle.cm_spec.specs.Image.{plain_byte}
use Rattle.cm_spec.specs.Lists.{list_of}
use Rattle.cm_store.specs.Stores.{Store, bad_record}
use Rattle.cm_store_file.specs.Headers.{header_at, header_bytes}
use Rattle.cm_store_file.specs.Steps.{◌>>=◌, lifted}
use Rattle.cm_store_file.specs.declared.fault.StoreLoad.{StoreLoad}
use Rattle.cm_store_file.specs.declared.fault.StoreLoad.TheVariants.{BadIndex, BadPlace, BadRecord}
use Rattle.cm_store_file.specs.declared.header.Header.{Header}
use Rattle.cm_store_file.specs.declared.header.TheConstants.{HEADER_LEN}

-- the bytes of an index: its dump
abbrev pub index_bytes : Bdz → List ℕ
index_bytes index = dump_of (func.Bdz index)

-- the bytes of places, four of each
abbrev pub places_bytes : List ℕ → List ℕ
places_bytes places = list_of (plain_byte places) (4 * length places)

-- the file of a store: the header, the index, the places and the records
unfoldable pub store_bytes : Store → List ℕ
store_bytes s = header_bytes (length (index_bytes s.index)) (length s.bytes) ++ (index_bytes s.index ++ (places_bytes s.places ++ s.bytes))

-- a function by BDZ is an index, and nothing else is
abbrev pub index_unless : Result Func LoadFault → Result Bdz StoreLoad
index_unless (Ok (func.Bdz index)) = Ok index
index_unless (Ok other) = Err BadIndex
index_unless (Err fault) = Err BadIndex

-- the index whose dump the bytes are
abbrev pub index_in : List ℕ → Result Bdz StoreLoad
index_in bytes = index_unless (spelling_of bytes)

-- the index of this many bytes after the header
unfoldable pub index_at : List ℕ → ℕ → Result Bdz StoreLoad
index_at bytes len = do
  item ← lifted (item_at bytes HEADER_LEN len)
  index_in item

-- these places, unless one of them, of which the lowest is named, isn't below the bound
abbrev pub places_below : ℕ → List ℕ → Result (List ℕ) StoreLoad
places_below bound places =
    let lowest = position_or_len (λ place. nat_le bound place) places in
    if nat_lt lowest (length places) then Err (BadPlace lowest) else Ok places

-- the n places of an image
abbrev pub places_in : ℕ → ℕ → List ℕ → Result (List ℕ) StoreLoad
places_in n bound image = places_below bound (list_of (plain_cell image) n)

-- the n places whose image begins at an offset
unfoldable pub places_at : List ℕ → ℕ → ℕ → ℕ → Result (List ℕ) StoreLoad
places_at bytes at n bound = do
  image ← lifted (item_at bytes at (4 * n))
  places_in n bound image

-- the store, unless something is wrong with its records
abbrev pub store_or : Store → Option ℕ → Result Store StoreLoad
store_or s None = Ok s
store_or s (Some at) = Err (BadRecord at)

abbrev pub store_unless : Store → Result Store StoreLoad
store_unless s = store_or s (bad_record s)

-- the store of a header and an index, and of the places and the records after them, which are the last bytes
unfoldable pub store_at : List ℕ → Header → Bdz → Result Store StoreLoad
store_at bytes h index = do
  places ← places_at bytes (HEADER_LEN + h.index) index.keys h.records
  records ← lifted (item_at bytes (HEADER_LEN + h.index + 4 * index.keys) h.records)
  s ← store_unless (record { index = index; places = places; bytes = records })
  ended ← lifted (end_at bytes (HEADER_LEN + h.index + 4 * index.keys + h.records))
  Ok s

-- the store whose file the bytes are, or their first fault
unfoldable pub store_in : List ℕ → Result Store StoreLoad
store_in bytes = do
  h ← lifted (header_at bytes)
  index ← index_at bytes h.index
  store_at bytes h index
