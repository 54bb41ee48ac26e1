-- Lists of numbers.
use Rattle.std.specs.Prelude.{ℕ, zero, suc, Bool, ◌==◌, List, [], ◌∷◌, map}
use Rattle.std.specs.List.{list_any, range_with_len}

-- n numbers from b on
abbrev pub numbers_from : ℕ → ℕ → List ℕ
numbers_from b zero = []
numbers_from b (suc n) = b ∷ numbers_from (suc b) n

-- whether a list of numbers has this one
abbrev pub has : List ℕ → ℕ → Bool
has xs x = list_any (λ y. y == x) xs

-- the list of `f k` for k from 0 to n - 1
abbrev pub list_of : (ℕ → ℕ) → ℕ → List ℕ
list_of f n = map f (range_with_len 0 n)
