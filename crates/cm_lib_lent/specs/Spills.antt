-- A spill in lent room, and a disk that has no other file, as contracts see them.
use Rattle.std.specs.Prelude.{ℕ, List, [], Option}

-- the bytes that were appended, how many the room has, and how many calls have failed
pub record SpillInRoom : Type 0 where
  pub bytes : List ℕ
  pub room : ℕ
  pub faults : ℕ

-- a spill that was not called yet
abbrev pub new_spill : ℕ → SpillInRoom
new_spill room = record { bytes = []; room = room; faults = 0 }

-- a disk with no files: the bytes of the spill that was handed back, if it was, and the counts of faults
pub record SpillOnly : Type 0 where
  pub spilled : Option (List ℕ)
  pub read_faults : ℕ
  pub write_faults : ℕ
