-- The bytes of a source that were read and not used yet, and those that come after them.
use Rattle.std.specs.Prelude.{◌≡◌, ◌-◌, ℕ, List, [], ◌∷◌, ◌++◌, Bool, true, take, drop, Option, None, Some}
use Rattle.std.specs.Option.{ForSome, option_map}
use Rattle.cm_witness_report.specs.Lines.{lines_in}

-- the bytes of a buffer from one place up to another
abbrev pub waiting : List ℕ → ℕ → ℕ → List ℕ
waiting buf from until = take (until - from) (drop from buf)

-- these bytes, and those that a source has after its place, if they are known
abbrev pub left_bytes : Option (List ℕ) → ℕ → List ℕ → Option (List ℕ)
left_bytes told place bytes = option_map (λ all. bytes ++ drop place all) told

-- a source that is said to have ended has no byte after its place
abbrev pub HasEnded : Bool → Option (List ℕ) → ℕ → Type 0
HasEnded ended told place = ended ≡ true → ForSome told (λ bytes. drop place bytes ≡ [])

-- what is found in the first line, if there is one
abbrev pub first_of : {X : Type 0} → (List ℕ → Option X) → List (List ℕ) → Option X
first_of f [] = None
first_of f (l ∷ lines) = f l

-- The first line was read as x, and the others are left; or nothing is found in it.
abbrev pub TakesLine : {X : Type 0} → (List ℕ → Option X) → List ℕ → List ℕ → Option X → Type 0
TakesLine f old new (Some x) = (l : List ℕ) × (lines_in old ≡ l ∷ lines_in new) × (f l ≡ Some x)
TakesLine f old new None = first_of f (lines_in old) ≡ None
