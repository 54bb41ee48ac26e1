-- Where a function looks up the number of a key.
use Rattle.std.specs.Prelude.{ℕ, ◌++◌, List, [], ◌∷◌}
use Rattle.cm_spec.specs.Bdz.{bdz_edge}

-- the three ends for the hash values of a key over n vertices, and 0
abbrev pub bdz_place : List ℕ → ℕ → List ℕ
bdz_place words n = bdz_edge words n ++ 0 ∷ []
