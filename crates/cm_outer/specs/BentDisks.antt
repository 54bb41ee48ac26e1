-- A disk with files that change and spills with a wrong byte, as contracts see it.
use Rattle.std.specs.Prelude.{ℕ, List, Option}

-- the contents of each pass over a file; the room of each writer and each spill; the place of a spill's byte that reads wrongly, and
-- what it reads as; the bytes of the writer that was last closed; the count of write faults
pub record BentDiskInMemory : Type 0 where
  pub passes : List (List ℕ)
  pub room : ℕ
  pub place : ℕ
  pub value : ℕ
  pub made : Option (List ℕ)
  pub write_faults : ℕ
