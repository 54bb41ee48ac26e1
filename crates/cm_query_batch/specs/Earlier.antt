-- Keys with their lines, each with those before it.
use Rattle.std.specs.Prelude.{ℕ, List, [], ◌∷◌, ◌++◌}

-- what each key gives with all keys before it, some of which are given first
abbrev pub with_earlier : {A : Type 0} → (List (ℕ × List ℕ) → ℕ × List ℕ → A) → List (ℕ × List ℕ) → List (ℕ × List ℕ) → List A
with_earlier give earlier [] = []
with_earlier give earlier (k ∷ keys) = give earlier k ∷ with_earlier give (earlier ++ k ∷ []) keys
