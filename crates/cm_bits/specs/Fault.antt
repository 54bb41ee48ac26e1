-- What is wrong with bytes that are no image of n cells.
use Rattle.std.specs.Prelude.{ℕ, ◌+◌, ◌-◌, ◌*◌, ◌/◌, ◌%◌, ◌^◌, List, length, slice_index, Option, Some, None, nat_lt, nat_le, if◌then◌else◌}
use Rattle.std.specs.List.{position_or_len}
use Rattle.cm_spec.specs.Image.{digits_sum}
use Rattle.cm_spec.specs.Lists.{list_of}
use Rattle.cm_bits.specs.declared.fault.ImageFault.{ImageFault}
use Rattle.cm_bits.specs.declared.fault.ImageFault.TheVariants.{BadCell, BadPadding}

-- the lowest cell at fault, if it is one of the n; else the last byte, if the padding is not zero
abbrev pub fault_of : ℕ → ℕ → ℕ → ℕ → Option ImageFault
fault_of n lowest padding last =
    if nat_lt lowest n then Some (BadCell lowest) else if nat_lt 0 padding then Some (BadPadding last) else None

-- a byte that p digits of base d cannot form is at fault, and its first cell is named; the padding is what the last byte holds past the
-- n cells
unfoldable pub packed_fault : ℕ → ℕ → ℕ → List ℕ → Option ImageFault
packed_fault d p n bytes =
    fault_of n (p * position_or_len (λ b. nat_le (d ^ p) b) bytes) (slice_index bytes (n / p) / d ^ (n % p)) (length bytes - 1)

-- the number that bytes make, the first the lowest
unfoldable pub bytes_number : List ℕ → ℕ
bytes_number bytes = digits_sum 256 (slice_index bytes) (length bytes)

-- the n cells of w bits of a number, the lowest first
unfoldable pub field_cells : ℕ → ℕ → ℕ → List ℕ
field_cells w n number = list_of (λ i. number / (2 ^ w) ^ i % 2 ^ w) n

-- a cell of w bits is at fault if it is not below the bound; the padding is what is past the n cells
unfoldable pub fields_fault : ℕ → ℕ → ℕ → List ℕ → Option ImageFault
fields_fault w n bound bytes =
    fault_of n (position_or_len (λ c. nat_le bound c) (field_cells w n (bytes_number bytes))) (bytes_number bytes / (2 ^ w) ^ n) (length bytes - 1)

-- cell i of plain bytes
abbrev pub plain_cell : List ℕ → ℕ → ℕ
plain_cell bytes i = digits_sum 256 (λ k. slice_index bytes (4 * i + k)) 4

-- a plain cell is at fault if it is not below the bound; there is no padding
unfoldable pub plain_fault : ℕ → ℕ → List ℕ → Option ImageFault
plain_fault n bound bytes = fault_of n (position_or_len (λ c. nat_le bound c) (list_of (plain_cell bytes) n)) 0 0
