-- How a table holds its cells: in the bytes of their image.
use Rattle.std.specs.Prelude.{◌≡◌, ℕ, ◌+◌, ◌/◌, ◌%◌, ◌^◌, ◌<◌, ◌≤◌, List, length, slice_index, bit_xor}
use Rattle.cm_spec.specs.Image.{digits_sum, packed_len, packed_byte, fields_len}
use Rattle.cm_spec.specs.Lists.{list_of}
use Rattle.cm_bits.specs.Fault.{bytes_number}

-- the n cells that packed bytes hold
unfoldable pub packed_cells : ℕ → ℕ → ℕ → List ℕ → List ℕ
packed_cells d p n bytes = list_of (λ i. slice_index bytes (i / p) / d ^ (i % p) % d) n

-- the bytes are the image of the cells
pub record IsImageOf (d p : ℕ) (cells bytes : List ℕ) : Type 0 where
  pub len : length bytes ≡ packed_len p (length cells)
  pub image : (q : ℕ) → q < length bytes → slice_index bytes q ≡ packed_byte d p cells q

-- the bytes are the image of the n cells that they hold
pub record IsPacked (d p n : ℕ) (bytes : List ℕ) : Type 0 where
  pub len : length bytes ≡ packed_len p n
  pub image : (q : ℕ) → q < length bytes → slice_index bytes q ≡ packed_byte d p (packed_cells d p n bytes) q

-- the bytes of n cells of w bits, and eight more, with nothing past the cells
pub record IsFields (w n : ℕ) (bytes : List ℕ) : Type 0 where
  pub len : length bytes ≡ fields_len w n + 8
  pub fit : (k : ℕ) → slice_index bytes k < 256
  pub clear : bytes_number bytes < (2 ^ w) ^ n

-- the first m of the cells of w bits that bytes hold are below the bound
abbrev pub AreBelow : ℕ → ℕ → List ℕ → ℕ → Type 0
AreBelow w bound bytes m = (k : ℕ) → k < m → bytes_number bytes / (2 ^ w) ^ k % 2 ^ w < bound

-- bytes with room for n cells of w bits, and eight bytes more; w is at most 26, and numbers below the bound have w bits
pub record HoldFields (w n bound : ℕ) (bytes : List ℕ) : Type 0 where
  pub width : w ≤ 26
  pub bound_within : bound ≤ 2 ^ w
  pub whole : length bytes ≡ fields_len w n + 8
  pub fit : (k : ℕ) → slice_index bytes k < 256

-- the lowest w bits are ones, for some w of at most 26, and no others are
abbrev pub IsMask : ℕ → Type 0
IsMask mask = (w : ℕ) × (w ≤ 26) × (mask + 1 ≡ 2 ^ w)

-- the number that eight bytes from a place on make, the first the lowest
unfoldable pub window_at : List ℕ → ℕ → ℕ
window_at bytes at = digits_sum 256 (λ k. slice_index bytes (at + k)) 8

-- the carries into each bit, when two numbers of 64 bits are added
abbrev pub carries_of : ℕ → ℕ → ℕ
carries_of x y = bit_xor (bit_xor x y) ((x + y) % 2 ^ 64)

-- eight bytes from a place on become those of a number, and the others stay
pub record PutsWindow (at number : ℕ) (old new : List ℕ) : Type 0 where
  pub len : length new ≡ length old
  pub put : (k : ℕ) → k < 8 → slice_index new (at + k) ≡ number / 256 ^ k % 256
  pub before : (k : ℕ) → k < at → slice_index new k ≡ slice_index old k
  pub after : (k : ℕ) → at + 8 ≤ k → slice_index new k ≡ slice_index old k
