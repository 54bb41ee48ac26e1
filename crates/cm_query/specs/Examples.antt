-- Functions and keys of the worked examples.
use Rattle.std.specs.Prelude.{ℕ, ◌==◌, List, [], ◌∷◌, length, Option, None, Some, if◌then◌else◌}

-- every key is answered with 0
abbrev pub zero : List ℕ → Option ℕ
zero key = Some 0

-- keys of one byte are answered with 7, and others are unknown
abbrev pub known_a : List ℕ → Option ℕ
known_a key = if length key == 1 then Some 7 else None

-- two empty keys
abbrev pub two_empty : List (ℕ × List ℕ)
two_empty = (1, []) ∷ (2, []) ∷ []

-- `a`, an empty key, `a` again and `ab`
abbrev pub a_between : List (ℕ × List ℕ)
a_between = (1, 97 ∷ []) ∷ (3, []) ∷ (12, 97 ∷ []) ∷ (13, 97 ∷ 98 ∷ []) ∷ []
