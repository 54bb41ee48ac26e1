-- A spill with a wrong byte, as contracts see it.
use Rattle.std.specs.Prelude.{ℕ, List, [], slice_set}

-- what was appended, and the room for it; the place of the byte that reads wrongly, and what it reads as; the count of faults
pub record BentInMemory : Type 0 where
  pub bytes : List ℕ
  pub room : ℕ
  pub place : ℕ
  pub value : ℕ
  pub faults : ℕ

-- a spill that was not called yet
abbrev pub new_bent : ℕ → ℕ → ℕ → BentInMemory
new_bent room place value = record { bytes = []; room = room; place = place; value = value; faults = 0 }

-- what a spill reads as: what was appended, with the value at the place if it reaches there
abbrev pub bent : BentInMemory → List ℕ
bent spill = slice_set spill.bytes spill.place spill.value
