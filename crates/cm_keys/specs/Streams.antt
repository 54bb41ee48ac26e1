-- The lines of a source that is read once, as contracts see them.
use Rattle.std.specs.Prelude.{◌≡◌, ◌⊎◌, ◌<◌, ◌≤◌, ◌+◌, ℕ, List, [], ◌∷◌, drop, Option, None, Some, Bool, true, false, Result, Ok, Err}
use Rattle.std.specs.Option.{option_map}
use Rattle.cm_io.specs.Causes.{Rose}
use Rattle.cm_io.specs.Passes.{Ends, Told}
use Rattle.cm_io.specs.declared.key_pass.KeyFault.TheVariants as key_fault
use Rattle.cm_io.specs.declared.key_pass.TheConstants.{MAX_KEY_LEN}
use Rattle.cm_keys.specs.Buffering.{HasNoEnd, TakesPart, line_rule}
use Rattle.cm_keys.specs.LinePass.{IsFull, IsOpen}
use Rattle.cm_keys.specs.Lines.{lines_of}
use Rattle.cm_keys.specs.declared.buffered.Part.TheVariants.{Whole}
use Rattle.cm_keys.specs.declared.lines.LineFault.{LineFault}
use Rattle.cm_keys.specs.declared.lines.LineFault.TheVariants.{Read, TooLong, TooMany}
use Rattle.cm_keys.specs.declared.lines.TheConstants.{MAX_LINES}

-- the numbered lines in the bytes of a file, the first ones or all, at most `MAX_LINES` of them, of at most `MAX_KEY_LEN` bytes each, and
-- the fault at their end
abbrev pub stream_in : Option ℕ → ℕ → List ℕ → Told
stream_in first end bytes = lines_of MAX_LINES MAX_KEY_LEN end first bytes

-- the known bytes of the source; how many lines are read, if not all; the byte that ends a line; how many lines were yielded; whether a
-- line may be asked for; the source's count of faults; the buffered bytes
pub record LineStream : Type 0 where
  pub bytes : Option (List ℕ)
  pub first : Option ℕ
  pub end : ℕ
  pub count : ℕ
  pub usable : Bool
  pub faults : ℕ
  pub waiting : List ℕ

-- lines of which none was yielded
abbrev pub new_stream : Option (List ℕ) → Option ℕ → ℕ → ℕ → LineStream
new_stream bytes first end faults = record { bytes = bytes; first = first; end = end; count = 0; usable = true; faults = faults; waiting = [] }

-- the lines with the fault at their end, if the bytes of the source are known
abbrev pub told_by : LineStream → Option Told
told_by stream = option_map (stream_in stream.first stream.end) stream.bytes

-- the next of the known lines, or what comes after the last
abbrev pub GivesLine : Told → ℕ → ℕ → List ℕ → Result Bool LineFault → Type 0
GivesLine told before now key (Ok true) = (drop before told.keys ≡ (before + 1, key) ∷ drop now told.keys) × (now ≡ before + 1)
GivesLine told before now key (Ok false) = Ends told before None
GivesLine told before now key (Err Read) = Unit {0}
GivesLine told before now key (Err TooLong) = Ends told before (Some (key_fault.TooLong (before + 1)))
GivesLine told before now key (Err TooMany) = Ends told before (Some key_fault.TooMany)

-- The count never falls, and a call returns `Read` exactly if it rose.
abbrev pub HasLineCause : ℕ → ℕ → Result Bool LineFault → Type 0
HasLineCause before now (Ok more) = now ≡ before
HasLineCause before now (Err Read) = (before ≤ now) × Rose before now
HasLineCause before now (Err TooLong) = now ≡ before
HasLineCause before now (Err TooMany) = now ≡ before

-- The line at fault is to be read, and is one too many exactly after `MAX_LINES` lines.
abbrev pub IsLineFault : LineStream → LineFault → Type 0
IsLineFault stream Read = Unit {0}
IsLineFault stream TooLong = (stream.count < MAX_LINES) × IsOpen stream.first stream.count
IsLineFault stream TooMany = IsOpen stream.first stream.count × (stream.count ≡ MAX_LINES)

-- These bytes are those of the next line, which is buffered as a whole, with its end.
abbrev pub IsBuffered : LineStream → List ℕ → Type 0
IsBuffered stream key = IsOpen stream.first stream.count × (stream.count < MAX_LINES) × (left : List ℕ) × TakesPart (line_rule MAX_KEY_LEN stream.end) stream.waiting left [] key Whole

-- No line is buffered: no further one is read, or there are `MAX_LINES`, or the next is not whole in the buffer.
abbrev pub NoneBuffered : LineStream → Type 0
NoneBuffered stream = IsFull stream.first stream.count ⊎ ((MAX_LINES ≤ stream.count) ⊎ HasNoEnd stream.end stream.waiting)
