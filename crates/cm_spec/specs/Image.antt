-- The images of packed tables: by what bytes a list of cells is kept.
use Rattle.std.specs.Prelude.{ℕ, zero, suc, ◌+◌, ◌*◌, ◌/◌, ◌%◌, ◌^◌, List, length, slice_index, nat_le}
use Rattle.std.specs.Int.{div_ceil}
use Rattle.std.specs.List.{range_with_len, position_or_len}

-- the sum of `f i * base ^ i` over i below n
unfoldable pub digits_sum : ℕ → (ℕ → ℕ) → ℕ → ℕ
digits_sum base f zero = 0
digits_sum base f (suc n) = digits_sum base f n + f n * base ^ n

-- how many bytes n digits take, p of them a byte
abbrev pub packed_len : ℕ → ℕ → ℕ
packed_len p n = div_ceil n p

-- byte q of cells packed as digits in base d, p of them a byte, the first the lowest; a cell past the last counts as 0
unfoldable pub packed_byte : ℕ → ℕ → List ℕ → ℕ → ℕ
packed_byte d p cells q = digits_sum d (λ i. slice_index cells (p * q + i)) p

-- the least width of bits from 1 on whose numbers serve the bound; 27 if none to 26 does
unfoldable pub width_of : ℕ → ℕ
width_of bound = 1 + position_or_len (λ w. nat_le bound (2 ^ w)) (range_with_len 1 26)

-- how many bytes n cells of w bits take
abbrev pub fields_len : ℕ → ℕ → ℕ
fields_len w n = div_ceil (n * w) 8

-- the number that cells of w bits make, the first the lowest
unfoldable pub fields_number : ℕ → List ℕ → ℕ
fields_number w cells = digits_sum (2 ^ w) (slice_index cells) (length cells)

-- byte q of cells of w bits
unfoldable pub fields_byte : ℕ → List ℕ → ℕ → ℕ
fields_byte w cells q = fields_number w cells / 256 ^ q % 256

-- byte q of plain cells is byte q % 4 of cell q / 4
unfoldable pub plain_byte : List ℕ → ℕ → ℕ
plain_byte cells q = slice_index cells (q / 4) / 256 ^ (q % 4) % 256
