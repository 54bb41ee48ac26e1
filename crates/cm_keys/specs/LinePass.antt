-- A pass over the lines of a source, as contracts see it.
use Rattle.std.specs.Prelude.{◌≡◌, ◌⊎◌, ◌<◌, ◌≤◌, ◌+◌, ℕ, List, [], Option, None, Some, Bool, true, false, take}
use Rattle.std.specs.Option.{ForSome, option_map}
use Rattle.cm_io.specs.Passes.{Told}
use Rattle.cm_io.specs.declared.key_pass.KeyFault.{KeyFault}
use Rattle.cm_io.specs.declared.key_pass.KeyFault.TheVariants.{Read, TooLong, TooMany}
use Rattle.cm_keys.specs.Lines.{lines_of}
use Rattle.cm_keys.specs.Buffering.{HasNoEnd, TakesPart, line_rule}
use Rattle.cm_keys.specs.declared.buffered.Part.TheVariants.{Whole}

-- the known bytes of the source; how many lines are read, if not all; the byte that ends a line; how many keys were yielded since the
-- last rewind; whether the source has come to its end with no byte left; whether a key may be asked for; the fault that it may not be
-- asked for after; the source's count of faults; the buffered bytes
pub record LinePass : Type 0 where
  pub bytes : Option (List ℕ)
  pub first : Option ℕ
  pub end : ℕ
  pub given : ℕ
  pub ended : Bool
  pub usable : Bool
  pub failure : Option KeyFault
  pub faults : ℕ
  pub waiting : List ℕ

-- a pass at its start
abbrev pub new_pass : Option (List ℕ) → Option ℕ → ℕ → ℕ → LinePass
new_pass bytes first end faults = record { bytes = bytes; first = first; end = end; given = 0; ended = false; usable = true; failure = None; faults = faults; waiting = [] }

-- the keys of a pass: those of the known bytes of its source
abbrev pub keys_of : ℕ → ℕ → LinePass → Option Told
keys_of max longest pass = option_map (lines_of max longest pass.end pass.first) pass.bytes

-- These keys were yielded since the last rewind: the first of those of the known bytes, as many as were yielded.
abbrev pub HasGiven : ℕ → ℕ → LinePass → List (ℕ × List ℕ) → Type 0
HasGiven max longest pass keys = ForSome (keys_of max longest pass) (λ told. keys ≡ take pass.given told.keys)

-- A further line is read.
abbrev pub IsOpen : Option ℕ → ℕ → Type 0
IsOpen None given = Unit {0}
IsOpen (Some first) given = given < first

-- All lines to read were yielded.
abbrev pub IsFull : Option ℕ → ℕ → Type 0
IsFull None given = ⊥
IsFull (Some first) given = first ≤ given

-- There is no further key: the first lines were yielded, or the source has come to its end with no byte left.
abbrev pub IsDone : LinePass → Type 0
IsDone pass = IsFull pass.first pass.given ⊎ (pass.ended ≡ true)

-- The line at fault is to be read and comes after the keys that were yielded, of which there are `max` if it is one too many.
abbrev pub IsNextLine : ℕ → LinePass → KeyFault → Type 0
IsNextLine max pass Read = Unit {0}
IsNextLine max pass (TooLong line) = (line ≡ pass.given + 1) × (pass.given < max) × IsOpen pass.first pass.given
IsNextLine max pass TooMany = (pass.given ≡ max) × IsOpen pass.first pass.given

-- These bytes are those of the next key, and its whole line is in the buffer, with its end.
abbrev pub IsAtHand : ℕ → ℕ → LinePass → List ℕ → Type 0
IsAtHand max longest pass key = IsOpen pass.first pass.given × (pass.given < max) × (left : List ℕ) × TakesPart (line_rule longest pass.end) pass.waiting left [] key Whole

-- No key is buffered: no further line is read, or there are `max` keys, or the next line is not whole in the buffer.
abbrev pub NoneAtHand : ℕ → LinePass → Type 0
NoneAtHand max pass = IsFull pass.first pass.given ⊎ ((max ≤ pass.given) ⊎ HasNoEnd pass.end pass.waiting)

-- Fewer further lines than this may be keys.
abbrev pub IsNearEnd : ℕ → ℕ → Option ℕ → ℕ → Type 0
IsNearEnd max many None given = max < given + many
IsNearEnd max many (Some first) given = (max < given + many) ⊎ (first < given + many)
