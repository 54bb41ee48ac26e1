-- Inputs of the worked examples: keys as bytes, each with its line, and graphs.
use Rattle.std.specs.Prelude.{ℕ, List, [], ◌∷◌}

-- one empty key; an empty key and `a`; `a` and `b`; two empty keys
abbrev pub one_empty : List (ℕ × List ℕ)
one_empty = (1, []) ∷ []

abbrev pub empty_and_a : List (ℕ × List ℕ)
empty_and_a = (1, []) ∷ (2, 97 ∷ []) ∷ []

abbrev pub a_and_b : List (ℕ × List ℕ)
a_and_b = (1, 97 ∷ []) ∷ (2, 98 ∷ []) ∷ []

abbrev pub two_empty : List (ℕ × List ℕ)
two_empty = (1, []) ∷ (2, []) ∷ []

-- a path of three edges; a ring of three; the ring with an edge that hangs on it; one edge with three ends; three such edges, of
-- which the second is free once the others are gone
abbrev pub path : List (List ℕ)
path = (0 ∷ 1 ∷ []) ∷ (1 ∷ 2 ∷ []) ∷ (2 ∷ 3 ∷ []) ∷ []

abbrev pub ring : List (List ℕ)
ring = (0 ∷ 1 ∷ []) ∷ (1 ∷ 2 ∷ []) ∷ (2 ∷ 0 ∷ []) ∷ []

abbrev pub hung_ring : List (List ℕ)
hung_ring = (0 ∷ 1 ∷ []) ∷ (1 ∷ 2 ∷ []) ∷ (2 ∷ 0 ∷ []) ∷ (2 ∷ 3 ∷ []) ∷ []

abbrev pub triple : List (List ℕ)
triple = (0 ∷ 3 ∷ 6 ∷ []) ∷ []

abbrev pub knot : List (List ℕ)
knot = (0 ∷ 3 ∷ 6 ∷ []) ∷ (0 ∷ 3 ∷ 7 ∷ []) ∷ (1 ∷ 3 ∷ 7 ∷ []) ∷ []
