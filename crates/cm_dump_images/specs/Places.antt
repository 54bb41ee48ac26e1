-- Places in an image that are near enough to be counted in a file.
use Rattle.std.specs.Prelude.{◌≡◌, ◌<◌, ◌^◌, ℕ, List, length, Option, Some}
use Rattle.cm_bits.specs.declared.TheConstants.{MAX_CELLS}
use Rattle.cm_bits.specs.declared.fault.ImageFault.{ImageFault}
use Rattle.cm_bits.specs.declared.fault.ImageFault.TheVariants as image

-- the cell is one that a table may have, with its byte in a slice, and the byte is one of a slice
abbrev pub IsPlace : (ℕ → ℕ) → ImageFault → Type 0
IsPlace place image.Memory = Unit {0}
IsPlace place (image.BadCell i) = (i < MAX_CELLS) × (place i < 2 ^ 62)
IsPlace place (image.BadPadding q) = q < 2 ^ 62

-- the faults of `size` bytes are at such places
abbrev pub AreNear : ℕ → (ℕ → ℕ) → (List ℕ → Option ImageFault) → Type 0
AreNear size place fault = (bytes : List ℕ) (f : ImageFault) → length bytes ≡ size → fault bytes ≡ Some f → IsPlace place f
