-- Statements, each proved as a clause of `worked_rows`: the keys of worked texts. 97 is a, 98 is b, 13 and 10 are CR and LF.
use Rattle.std.specs.Prelude.{◌≡◌, [], ◌∷◌, None, Some}
use Rattle.cm_io.specs.declared.key_pass.KeyFault.TheVariants.{TooLong, TooMany}
use Rattle.cm_keys.specs.Lines.{lines_of}

-- A carriage return is part of its key, and a last line without its end counts.
abbrev pub CarriageReturn : Type 0
CarriageReturn = lines_of 9 9 10 None (97 ∷ 13 ∷ 10 ∷ 98 ∷ []) ≡ record { keys = (1, 97 ∷ 13 ∷ []) ∷ (2, 98 ∷ []) ∷ []; fault = None }

-- An empty line is the empty key, and there is no line after the last end.
abbrev pub EmptyKeys : Type 0
EmptyKeys = lines_of 9 9 10 None (10 ∷ 10 ∷ []) ≡ record { keys = (1, []) ∷ (2, []) ∷ []; fault = None }

-- No bytes have no lines.
abbrev pub NoLines : Type 0
NoLines = lines_of 9 9 10 None [] ≡ record { keys = []; fault = None }

-- A line of the most bytes is a key, with its end and without.
abbrev pub LongestKeys : Type 0
LongestKeys = lines_of 9 2 10 None (97 ∷ 97 ∷ 10 ∷ 98 ∷ 98 ∷ []) ≡ record { keys = (1, 97 ∷ 97 ∷ []) ∷ (2, 98 ∷ 98 ∷ []) ∷ []; fault = None }

-- A line of one byte more is too long, and no later one is a key.
abbrev pub LongLine : Type 0
LongLine = lines_of 9 2 10 None (97 ∷ 10 ∷ 98 ∷ 98 ∷ 98 ∷ 10 ∷ 97 ∷ 10 ∷ []) ≡ record { keys = (1, 97 ∷ []) ∷ []; fault = Some (TooLong 2) }

-- A line after the most lines is too many, also if it is too long.
abbrev pub ManyLines : Type 0
ManyLines = lines_of 2 2 10 None (10 ∷ 10 ∷ 97 ∷ 97 ∷ 97 ∷ []) ≡ record { keys = (1, []) ∷ (2, []) ∷ []; fault = Some TooMany }

-- With the number of lines given, no later one is read.
abbrev pub FirstLines : Type 0
FirstLines = lines_of 2 2 10 (Some 2) (10 ∷ 10 ∷ 97 ∷ 97 ∷ 97 ∷ []) ≡ record { keys = (1, []) ∷ (2, []) ∷ []; fault = None }

-- If byte 0 ends a line, a line feed is part of its key. An empty line is the empty key, and a last line without its end counts.
abbrev pub ZeroEnds : Type 0
ZeroEnds = lines_of 9 9 0 None (97 ∷ 10 ∷ 98 ∷ 0 ∷ 0 ∷ 10 ∷ []) ≡ record { keys = (1, 97 ∷ 10 ∷ 98 ∷ []) ∷ (2, []) ∷ (3, 10 ∷ []) ∷ []; fault = None }
