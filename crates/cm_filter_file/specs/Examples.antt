-- Filter files that the worked examples are about.
use Rattle.std.specs.Prelude.{ℕ, List, [], ◌∷◌, ◌++◌, codes}

-- the header of a filter file of fingerprints of w bits over some keys, with the ratio 1.23 and the seed 0
abbrev pub header : ℕ → ℕ → List ℕ
header w keys = codes "CMPHFLT1" ++ w ∷ 0 ∷ 0 ∷ 0 ∷ keys ∷ 0 ∷ 0 ∷ 0 ∷ 0xb0 ∷ 0xc4 ∷ 0x12 ∷ 0 ∷ 0 ∷ 0 ∷ 0 ∷ 0 ∷ []

-- the nine cells of the filter of one key, and of two
abbrev pub cells_of_one : List ℕ
cells_of_one = 0 ∷ 0xfd ∷ 0 ∷ 0 ∷ 0 ∷ 0 ∷ 0 ∷ 0 ∷ 0 ∷ []

abbrev pub cells_of_two : List ℕ
cells_of_two = 0 ∷ 0xfd ∷ 0x0a ∷ 0 ∷ 0 ∷ 0 ∷ 0 ∷ 0 ∷ 0 ∷ []
