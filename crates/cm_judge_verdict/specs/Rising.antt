-- Lists that rise by a number of their items.
use Rattle.std.specs.Prelude.{ℕ, suc, ◌≤◌, List, [], ◌∷◌}

-- the numbers of the items rise, from low on
abbrev pub RisesBy : {X : Type 0} → (X → ℕ) → ℕ → List X → Type 0
RisesBy f low [] = Unit {0}
RisesBy f low (x ∷ xs) = (low ≤ f x) × RisesBy f (suc (f x)) xs
