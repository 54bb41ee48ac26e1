-- Keys of the worked examples.
use Rattle.std.specs.Prelude.{ℕ, List, [], ◌∷◌}

-- three empty keys, and `a` in the second line
abbrev pub empties_and_a : List (ℕ × List ℕ)
empties_and_a = (1, []) ∷ (2, 97 ∷ []) ∷ (3, []) ∷ (4, []) ∷ []
