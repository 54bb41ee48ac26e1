-- What functions over numbered keys are for.
use Rattle.std.specs.Prelude.{◌≡◌, ◌<◌, ℕ, List, length, Option, Some}
use Rattle.cm_bdz.specs.Functions.{Bdz, BdzPh}
use Rattle.cm_spec.specs.Bdz.{bdz_rule, bdz_ph_rule}
use Rattle.cm_spec.specs.Built.{cells_under, key_at}

-- each key has an answer below the bound, and no two keys have the same
pub record AnswersApart (keys : List (ℕ × List ℕ)) (answer : List ℕ → Option ℕ) (bound : ℕ) : Type 0 where
  pub below : (i : ℕ) → i < length keys → (n : ℕ) × (answer (key_at keys i) ≡ Some n) × (n < bound)
  pub apart : (i j : ℕ) → i < length keys → j < length keys → answer (key_at keys i) ≡ answer (key_at keys j) → i ≡ j

-- the functions of keys under a seed
abbrev pub bdz_under : List (ℕ × List ℕ) → ℕ → ℕ → ℕ → Bdz
bdz_under keys c seed shift = record { keys = length keys; ratio = c; seed = seed; shift = shift; cells = cells_under bdz_rule keys c seed }

abbrev pub bdz_ph_under : List (ℕ × List ℕ) → ℕ → ℕ → BdzPh
bdz_ph_under keys c seed = record { keys = length keys; ratio = c; seed = seed; cells = cells_under bdz_ph_rule keys c seed }
