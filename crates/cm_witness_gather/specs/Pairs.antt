-- Which of some keys with their lines are equal.
use Rattle.std.specs.Prelude.{ℕ, List, [], ◌∷◌, ◌++◌, Option, None, Some, if◌then◌else◌}
use Rattle.std.specs.Str.{bytes_eq}
use Rattle.cm_witness_gather.specs.declared.certificate.Pair.{Pair}

-- the line of the first of these keys that has the bytes
abbrev pub first_line : List (ℕ × List ℕ) → List ℕ → Option ℕ
first_line [] key = None
first_line (k ∷ keys) key = if bytes_eq k.1 key then Some k.0 else first_line keys key

-- a pair before others, if an earlier key is equal
abbrev pub with_pair : Option ℕ → ℕ → List Pair → List Pair
with_pair None line pairs = pairs
with_pair (Some first) line pairs = record { first = first; again = line } ∷ pairs

-- of each key that an earlier one equals, the line of the first such key and its own; some keys stand before all of these
abbrev pub pairs_after : List (ℕ × List ℕ) → List (ℕ × List ℕ) → List Pair
pairs_after earlier [] = []
pairs_after earlier (k ∷ keys) = with_pair (first_line earlier k.1) k.0 (pairs_after (earlier ++ k ∷ []) keys)

-- the pairs of equal keys, by rising later line
abbrev pub pairs : List (ℕ × List ℕ) → List Pair
pairs keys = pairs_after [] keys
