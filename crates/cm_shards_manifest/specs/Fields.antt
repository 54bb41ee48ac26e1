-- The widths of numbers in a file, by their bytes.
use Rattle.std.specs.Prelude.{ℕ, ◌==◌, ◌||◌, Bool, if◌then◌else◌}
use Rattle.std.specs.Int.{Width, w8, w16, w32, w64}

abbrev pub is_width : ℕ → Bool
is_width n = n == 1 || n == 2 || n == 4 || n == 8

abbrev pub width_of : ℕ → Width
width_of n = if n == 1 then w8 else if n == 2 then w16 else if n == 4 then w32 else w64
