-- Lists of numbers below a bound.
use Rattle.std.specs.Prelude.{ℕ, ◌<◌, List, length, slice_index}

-- each number of the list is below the bound
abbrev pub AllBelow : ℕ → List ℕ → Type 0
AllBelow bound xs = (k : ℕ) → k < length xs → slice_index xs k < bound
