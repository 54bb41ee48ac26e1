-- The image of a table in a file, at its offset, and its first fault.
use Rattle.std.specs.Prelude.{◌≡◌, ◌+◌, ◌*◌, ◌/◌, ℕ, List, Option, Some, None, Result, Ok, Err}
use Rattle.cm_bits.specs.declared.fault.ImageFault.{ImageFault}
use Rattle.cm_bits.specs.declared.fault.ImageFault.TheVariants as image
use Rattle.cm_bits.specs.Fault.{fields_fault, packed_fault}
use Rattle.cm_dump_items.specs.declared.fault.LoadFault.{LoadFault}
use Rattle.cm_dump_items.specs.declared.fault.LoadFault.TheVariants as faults
use Rattle.cm_dump_items.specs.Reading.{◌>>=◌, IsLongFault, item_at}
use Rattle.cm_spec.specs.Image.{width_of, fields_len, packed_len}

-- the fault of an image that begins at an offset: a bad cell is named by the byte of its lowest bit or digit
abbrev pub fault_at : ℕ → (ℕ → ℕ) → ImageFault → LoadFault
fault_at at place image.Memory = faults.Memory
fault_at at place (image.BadCell i) = faults.BadCell (at + place i)
fault_at at place (image.BadPadding q) = faults.BadPadding (at + q)

-- the image, if it has no fault
abbrev pub unless_bad : ℕ → (ℕ → ℕ) → Option ImageFault → List ℕ → Result (List ℕ) LoadFault
unless_bad at place None item = Ok item
unless_bad at place (Some f) item = Err (fault_at at place f)

-- the image of a size in bytes at an offset, by the byte that holds a cell's lowest bit or digit, and by the fault of bytes
unfoldable pub image_at : List ℕ → ℕ → ℕ → (ℕ → ℕ) → (List ℕ → Option ImageFault) → Result (List ℕ) LoadFault
image_at bytes at size place fault = do
  item ← item_at bytes at size
  unless_bad at place (fault item) item

-- the image of n cells in as many bits as the bound needs
abbrev pub fields_at : List ℕ → ℕ → ℕ → ℕ → Result (List ℕ) LoadFault
fields_at bytes at n bound = image_at bytes at (fields_len (width_of bound) n) (λ i. i * width_of bound / 8) (fields_fault (width_of bound) n bound)

-- the image of n cells that are digits in base d, p of them a byte
abbrev pub packed_at : List ℕ → ℕ → ℕ → ℕ → ℕ → Result (List ℕ) LoadFault
packed_at bytes at d p n = image_at bytes at (packed_len p n) (λ i. i / p) (packed_fault d p n)

-- the faults of an image that is read: a cell is bad only if some bytes have such a fault
abbrev pub IsCellsFault : (List ℕ → Option ImageFault) → LoadFault → Type 0
IsCellsFault fault (faults.BadCell at) = (bytes : List ℕ) × (i : ℕ) × (fault bytes ≡ Some (image.BadCell i))
IsCellsFault fault (faults.BadPadding at) = Unit {0}
IsCellsFault fault other = IsLongFault other
