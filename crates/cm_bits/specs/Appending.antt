-- Cells after which others are appended.
use Rattle.std.specs.Prelude.{ℕ, ◌*◌, ◌-◌, ◌++◌, List, length, replicate}
use Rattle.cm_spec.specs.Image.{packed_len}

-- the cells, and zeros up to a whole byte, of p cells each
abbrev pub filled_up : ℕ → List ℕ → List ℕ
filled_up p cells = cells ++ replicate (p * packed_len p (length cells) - length cells) 0
