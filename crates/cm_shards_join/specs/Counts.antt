-- The first line at which the text of the counts of a split differs from another.
use Rattle.std.specs.Prelude.{ℕ, ◌+◌, ◌==◌, List, [], ◌∷◌, Option, None, Some, if◌then◌else◌}

-- the line after this one, if a byte ends it
abbrev pub next_line : ℕ → ℕ → ℕ
next_line line byte = if byte == 10 then line + 1 else line

-- The line of the first byte at which two texts differ, or one ends before the other. This is the line of their first bytes.
unfoldable pub differs_from : ℕ → List ℕ → List ℕ → Option ℕ
differs_from line [] [] = None
differs_from line [] (c ∷ cs) = Some line
differs_from line (b ∷ bs) [] = Some line
differs_from line (b ∷ bs) (c ∷ cs) = if b == c then differs_from (next_line line b) bs cs else Some line

-- the first line, from 1, at which two texts differ
abbrev pub line_apart : List ℕ → List ℕ → Option ℕ
line_apart text other = differs_from 1 text other
