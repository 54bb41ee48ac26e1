-- Marks of numbers: 64 bits a word, of which the one of a number is 1 if it is marked.
use Rattle.std.specs.Prelude.{◌/◌, ◌%◌, ◌==◌, ℕ, List, Option, None, Some, Bool, false, slice_index}
use Rattle.std.specs.Int.{bit_at}

-- how many bits a word has
abbrev pub word_bits : ℕ
word_bits = 64

-- the number is there and is marked
abbrev pub is_marked : List ℕ → Option ℕ → Bool
is_marked words None = false
is_marked words (Some v) = bit_at (slice_index words (v / 64)) (v % 64) == 1
