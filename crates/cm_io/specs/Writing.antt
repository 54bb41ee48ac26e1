-- What a write leaves.
use Rattle.std.specs.Prelude.{◌≡◌, ℕ, List, [], ◌∷◌, ◌++◌, take, Option, Result, MatchResult}
use Rattle.std.specs.Option.{option_map}
use Rattle.cm_io.specs.declared.fault.Failed.{Failed}

-- the known bytes of a sink, and then these
abbrev pub then_bytes : Option (List ℕ) → List ℕ → Option (List ℕ)
then_bytes known bytes = option_map (λ w. w ++ bytes) known

-- `Ok` appended the piece, and `Failed` a prefix of it.
abbrev pub Writes : Option (List ℕ) → Option (List ℕ) → List ℕ → Result (Unit {0}) Failed → Type 0
Writes old new piece result = MatchResult result
    (λ _. new ≡ then_bytes old piece)
    (λ _. (n : ℕ) × (new ≡ then_bytes old (take n piece)))

-- the pieces, one after another
abbrev pub joined : List (List ℕ) → List ℕ
joined [] = []
joined (piece ∷ pieces) = piece ++ joined pieces
