-- Numbers and lines of the worked examples.
use Rattle.std.specs.Prelude.{ℕ, List, [], ◌∷◌, length, Option, None, Some, if◌then◌else◌, nat_lt}
use Rattle.cm_io.specs.Passes.{Told}
use Rattle.cm_io.specs.declared.key_pass.KeyFault.{KeyFault}

-- the number of a key is its length, and keys of more than two bytes have none
abbrev pub by_length : List ℕ → Option ℕ
by_length key = if nat_lt 2 (length key) then None else Some (length key)

-- `a` and an empty line
abbrev pub two_keys : List (ℕ × List ℕ)
two_keys = (1, 97 ∷ []) ∷ (2, []) ∷ []

-- `a`, an empty line and `b`
abbrev pub a_twice : List (ℕ × List ℕ)
a_twice = (1, 97 ∷ []) ∷ (2, []) ∷ (3, 98 ∷ []) ∷ []

-- `a`, `abc` and `a` again
abbrev pub with_abc : List (ℕ × List ℕ)
with_abc = (1, 97 ∷ []) ∷ (2, 97 ∷ 98 ∷ 99 ∷ []) ∷ (3, 97 ∷ []) ∷ []

-- lines with a fault at their end, or none
abbrev pub told_of : List (ℕ × List ℕ) → Option KeyFault → Told
told_of lines fault = record { keys = lines; fault = fault }
