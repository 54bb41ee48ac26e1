-- What is kept of the keys noted so far.
use Rattle.std.specs.Prelude.{◌≡◌, ℕ, List, [], ◌∷◌, ◌++◌, map, Bool, if◌then◌else◌, Vec, slice_index_or}
use Rattle.std.specs.List.{zip}
use Rattle.cm_witness_gather.specs.Pairs.{first_line, pairs}
use Rattle.cm_witness_gather.specs.declared.certificate.Pair.{Pair}

-- the entries of a map from keys to lines, as lines with their keys
abbrev pub noted_in : {A : Type 0} → List (Vec ℕ A × ℕ) → List (ℕ × List ℕ)
noted_in entries = map (λ e. (e.1, e.0.items)) entries

-- keys, each with its line
abbrev pub with_lines : {A : Type 0} → List ℕ → List (Vec ℕ A) → List (ℕ × List ℕ)
with_lines lines keys = zip lines (map (λ k. k.items) keys)

-- each key has the same first line among those noted as among all of these, and the pairs are those of all
pub record AreNoted (earlier noted : List (ℕ × List ℕ)) (found : List Pair) : Type 0 where
  pub finds : (key : List ℕ) → first_line noted key ≡ first_line earlier key
  pub paired : found ≡ pairs earlier

-- the key at this place of a list, of this line, is passed, and noted if it is a candidate
pub record TakesKey (keys : List (ℕ × List ℕ)) (e line : ℕ) (candidate : Bool) (noted : List (ℕ × List ℕ)) (found : List Pair) (noted' : List (ℕ × List ℕ)) (found' : List Pair) : Type 0 where
  pub key : List ℕ
  pub is : slice_index_or keys e (0, []) ≡ (line, key)
  pub notes : (earlier : List (ℕ × List ℕ)) → AreNoted earlier noted found → AreNoted (earlier ++ (if candidate then (line, key) ∷ [] else [])) noted' found'
