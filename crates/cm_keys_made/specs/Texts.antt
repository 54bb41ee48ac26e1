-- The generated keys and their text.
use Rattle.std.specs.Prelude.{ℕ, zero, suc, ◌+◌, ◌*◌, ◌/◌, ◌%◌, ◌^◌, List, [], ◌∷◌, ◌++◌, codes, map}

-- the number that key number i writes, from 0 on
abbrev pub made_value : ℕ → ℕ
made_value i = 2654435761 * i % 4294967296

-- the digit of a number at 10 ^ k, in ASCII
abbrev pub digit_at : ℕ → ℕ → ℕ
digit_at value k = value / 10 ^ k % 10 + 48

-- the last ten decimal digits, with leading zeros
abbrev pub ten_digits : ℕ → List ℕ
ten_digits value = map (digit_at value) (9 ∷ 8 ∷ 7 ∷ 6 ∷ 5 ∷ 4 ∷ 3 ∷ 2 ∷ 1 ∷ 0 ∷ [])

-- two decimal digits
abbrev pub pair : ℕ → List ℕ
pair value = digit_at value 1 ∷ digit_at value 0 ∷ []

-- key number i, from 0 on
abbrev pub made_key : ℕ → List ℕ
made_key i = codes "key-" ++ ten_digits (made_value i)

-- the key with its end
abbrev pub made_line : ℕ → List ℕ
made_line i = made_key i ++ 10 ∷ []

-- the lines of the first keys
unfoldable pub made_text : ℕ → List ℕ
made_text zero = []
made_text (suc i) = made_text i ++ made_line i
