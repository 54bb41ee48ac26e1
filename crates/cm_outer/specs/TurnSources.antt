-- A source whose contents change, as contracts see it.
use Rattle.std.specs.Prelude.{◌+◌, ◌-◌, ℕ, List, [], length, min, slice_index_or}

-- the contents of each pass; the pass that is read, counted from 0; and the place in it
pub record TurnsInMemory : Type 0 where
  pub passes : List (List ℕ)
  pub turn : ℕ
  pub place : ℕ

-- a source that was not called yet
abbrev pub new_turns : List (List ℕ) → TurnsInMemory
new_turns passes = record { passes = passes; turn = 0; place = 0 }

-- the contents of the pass that is read
abbrev pub contents : TurnsInMemory → List ℕ
contents source = slice_index_or source.passes source.turn []

-- the start of the next pass; the last pass is repeated
abbrev pub turned : TurnsInMemory → TurnsInMemory
turned source = record source { turn = min (source.turn + 1) (length source.passes - 1); place = 0 }
