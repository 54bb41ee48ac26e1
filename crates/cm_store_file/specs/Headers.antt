-- The header of a store file: its bytes, and how it is read. Numbers are little-endian.
use Rattle.std.specs.Prelude.{ℕ, List, [], ◌∷◌, codes, nat_eq, Result, Ok, Err, if◌then◌else◌}
use Rattle.std.specs.Cmp.Lexicographic.{pointwise}
use Rattle.std.specs.Int.{to_le_bytes, w32}
use Rattle.std.specs.List.{concat}
use Rattle.cm_dump_items.specs.declared.fault.LoadFault.{LoadFault}
use Rattle.cm_dump_items.specs.declared.fault.LoadFault.TheVariants as faults
use Rattle.cm_dump_items.specs.Reading.{◌>>=◌, field_at, item_at}
use Rattle.cm_store_file.specs.declared.header.Header.{Header}
use Rattle.cm_store_records.specs.declared.limits.TheConstants.{MAX_RECORD_BYTES}

-- the first bytes of every store file
abbrev pub store_magic : List ℕ
store_magic = codes "CMPHREC1"

-- the header: the magic, how many bytes the index has, and how many the records have
unfoldable pub header_bytes : ℕ → ℕ → List ℕ
header_bytes index records = concat (store_magic ∷ to_le_bytes w32 index ∷ to_le_bytes w32 records ∷ [])

-- the first bytes are the magic
unfoldable pub magic_at : List ℕ → Result (Unit {0}) LoadFault
magic_at bytes = do
  item ← item_at bytes 0 8
  if pointwise nat_eq item store_magic then Ok tt else Err faults.BadMagic

-- the header: the magic, any length of the index, and a length of the records from 1 to `MAX_RECORD_BYTES`
unfoldable pub header_at : List ℕ → Result Header LoadFault
header_at bytes = do
  begun ← magic_at bytes
  index ← field_at w32 bytes 8 0 4294967295
  records ← field_at w32 bytes 12 1 MAX_RECORD_BYTES
  Ok (record { index = index; records = records })
