-- How far a source was read.
use Rattle.std.specs.Prelude.{◌≡◌, ◌++◌, ℕ, List, Option, drop}
use Rattle.std.specs.Option.{ForSome}

-- These bytes were read: they are those of the source before the place, if its bytes are known.
abbrev pub HasRead : Option (List ℕ) → ℕ → List ℕ → Type 0
HasRead told place bytes = ForSome told (λ all. all ≡ bytes ++ drop place all)
