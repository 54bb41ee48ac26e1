-- The file of a filter: its bytes, and the filter that bytes are the file of, or their first fault. Numbers are little-endian.
use Rattle.std.specs.Prelude.{◌≡◌, ◌+◌, ◌<◌, ◌≤◌, ◌^◌, ℕ, List, [], ◌∷◌, ◌++◌, codes, length, nat_eq, Result, Ok, Err, if◌then◌else◌}
use Rattle.std.specs.Cmp.Lexicographic.{pointwise}
use Rattle.std.specs.Int.{to_le_bytes, w8, w32}
use Rattle.std.specs.List.{concat}
use Rattle.std.specs.Result.{result_map_both}
use Rattle.cm_bits.specs.Bound.{AllBelow}
use Rattle.cm_bits.specs.Fault.{bytes_number, field_cells}
use Rattle.cm_dump_images.specs.Images.{fields_at}
use Rattle.cm_dump_items.specs.declared.fault.LoadFault.{LoadFault}
use Rattle.cm_dump_items.specs.declared.fault.LoadFault.TheVariants as faults
use Rattle.cm_dump_items.specs.Reading.{◌>>=◌, end_at, field_at, item_at, zeros_at}
use Rattle.cm_filter.specs.Filters.{Filter, IsFingerprint}
use Rattle.cm_filter.specs.declared.limits.TheConstants.{MAX_FINGERPRINT, MIN_FINGERPRINT}
use Rattle.cm_spec.specs.Bdz.{bdz_size}
use Rattle.cm_spec.specs.Dump.{fields_image}
use Rattle.cm_spec.specs.Image.{fields_len, width_of}
use Rattle.cm_spec.specs.Rule.{IsRatio}
use Rattle.cm_spec.specs.declared.limits.TheConstants.{MAX_KEYS}
use Rattle.cm_filter_file.specs.declared.fault.FilterFault.{FilterFault}
use Rattle.cm_filter_file.specs.declared.fault.FilterFault.TheVariants as filter_faults
use Rattle.cm_filter_file.specs.declared.header.Header.{Header}
use Rattle.cm_filter_file.specs.declared.header.TheConstants.{HEADER_LEN}

-- the first bytes of every filter file
abbrev pub filter_magic : List ℕ
filter_magic = codes "CMPHFLT1"

-- the header: the magic, the bits of a fingerprint and three zeros, the number of keys, the ratio in millionths and the seed
unfoldable pub header_bytes : Filter → List ℕ
header_bytes f = concat (filter_magic ∷ (f.bits ∷ 0 ∷ 0 ∷ 0 ∷ []) ∷ to_le_bytes w32 f.keys ∷ to_le_bytes w32 f.ratio ∷ to_le_bytes w32 f.seed ∷ [])

-- the file of a filter: the header, and the image of the cells
unfoldable pub filter_bytes : Filter → List ℕ
filter_bytes f = header_bytes f ++ fields_image (2 ^ f.bits) f.cells

-- a filter: its numbers are in their ranges, and it has as many cells as its graph has vertices, each of as many bits as a fingerprint
pub record IsFilter (f : Filter) : Type 0 where
  pub keys : (1 ≤ f.keys) × (f.keys ≤ MAX_KEYS)
  pub ratio : IsRatio f.ratio
  pub seed : f.seed < 2 ^ 32
  pub bits : IsFingerprint f.bits
  pub size : length f.cells ≡ bdz_size f.keys f.ratio
  pub below : AllBelow (2 ^ f.bits) f.cells

-- the first bytes are the magic
unfoldable pub magic_at : List ℕ → Result (Unit {0}) LoadFault
magic_at bytes = do
  item ← item_at bytes 0 8
  if pointwise nat_eq item filter_magic then Ok tt else Err faults.BadMagic

-- the header: the magic, the bits of a fingerprint, three zeros, the number of keys, the ratio in millionths and the seed
unfoldable pub header_at : List ℕ → Result Header LoadFault
header_at bytes = do
  begun ← magic_at bytes
  w ← field_at w8 bytes 8 MIN_FINGERPRINT MAX_FINGERPRINT
  none ← zeros_at bytes 9 3
  keys ← field_at w32 bytes 12 1 MAX_KEYS
  ratio ← field_at w32 bytes 16 1000000 10000000
  seed ← field_at w32 bytes 20 0 4294967295
  Ok (record { w = w; keys = keys; ratio = ratio; seed = seed })

-- the filter of a header and the cells after it
unfoldable pub cells_at : List ℕ → Header → Result Filter LoadFault
cells_at bytes h = do
  image ← fields_at bytes HEADER_LEN (bdz_size h.keys h.ratio) (2 ^ h.w)
  ended ← end_at bytes (HEADER_LEN + fields_len (width_of (2 ^ h.w)) (bdz_size h.keys h.ratio))
  Ok (record { keys = h.keys; ratio = h.ratio; seed = h.seed; bits = h.w; cells = field_cells (width_of (2 ^ h.w)) (bdz_size h.keys h.ratio) (bytes_number image) })

-- the filter whose file the bytes are, or the first fault of its items
unfoldable pub filter_at : List ℕ → Result Filter LoadFault
filter_at bytes = do
  h ← header_at bytes
  cells_at bytes h

-- A fault as one of a filter file. No file has one of the last four faults: a filter file has neither an algorithm, a count nor ranks, and
-- each number of as many bits as a cell has is one that a cell may have.
abbrev pub fault_named : LoadFault → FilterFault
fault_named faults.Memory = filter_faults.Memory
fault_named faults.Read = filter_faults.Read
fault_named (faults.Truncated at) = filter_faults.Truncated at
fault_named faults.BadMagic = filter_faults.BadMagic
fault_named (faults.BadField at) = filter_faults.BadField at
fault_named (faults.BadPadding at) = filter_faults.BadPadding at
fault_named faults.Trailing = filter_faults.Trailing
fault_named faults.BadAlgorithm = filter_faults.BadMagic
fault_named (faults.BadCell at) = filter_faults.BadField at
fault_named (faults.BadCount at) = filter_faults.BadField at
fault_named (faults.BadRank at) = filter_faults.BadField at

-- the filter whose file the bytes are, or their first fault by its name
abbrev pub filter_in : List ℕ → Result Filter FilterFault
filter_in bytes = result_map_both (λ f. f) fault_named (filter_at bytes)

-- the faults of bytes that are no filter file
abbrev pub IsFileFault : LoadFault → Type 0
IsFileFault (faults.Truncated at) = Unit {0}
IsFileFault faults.BadMagic = Unit {0}
IsFileFault (faults.BadField at) = Unit {0}
IsFileFault (faults.BadPadding at) = Unit {0}
IsFileFault faults.Trailing = Unit {0}
IsFileFault fault = ⊥
