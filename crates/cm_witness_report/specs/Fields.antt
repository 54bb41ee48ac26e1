-- The numbers of a line, each after the bytes that stand before it.
use Rattle.std.specs.Prelude.{◌==◌, ◌&&◌, ◌^◌, ℕ, nat_lt, List, [], ◌∷◌, ◌≡◌, Bool, false, Option, None, Some, length, drop, decimal, if◌then◌else◌}
use Rattle.std.specs.Char.{is_digit}
use Rattle.std.specs.Str.{bytes_eq}
use Rattle.std.specs.Str.Parse.{digits_value}

-- one part, and then what is read after it, if both are there
infixl 10 ◌>>=◌
abbrev pub ◌>>=◌ : {A B : Type 0} → Option A → (A → Option B) → Option B
None >>= f = None
(Some x) >>= f = f x

-- what follows these bytes in a text that begins with them
abbrev pub after : List ℕ → List ℕ → Option (List ℕ)
after [] text = Some text
after (b ∷ part) [] = None
after (b ∷ part) (c ∷ text) = if b == c then after part text else None

-- the decimal digits that a text begins with
abbrev pub digits_of : List ℕ → List ℕ
digits_of [] = []
digits_of (c ∷ text) = if is_digit c 10 then c ∷ digits_of text else []

-- a text begins with a digit
abbrev pub starts_digit : List ℕ → Bool
starts_digit [] = false
starts_digit (c ∷ text) = is_digit c 10

-- the number that these digits write, if they write it as it is written, without a zero before it, and if it has at most 32 bits; and
-- what follows them
abbrev pub number_of : List ℕ → List ℕ → Option (ℕ × List ℕ)
number_of digits text = if bytes_eq (decimal (digits_value 10 digits)) digits && nat_lt (digits_value 10 digits) (2 ^ 32) then Some (digits_value 10 digits, drop (length digits) text) else None

-- the number that a text begins with, and what follows it
abbrev pub number_at : List ℕ → Option (ℕ × List ℕ)
number_at text = number_of (digits_of text) text

-- the number that stands after these bytes at the start of a text, and what follows it
unfoldable pub field_at : List ℕ → List ℕ → Option (ℕ × List ℕ)
field_at part text = do
  rest ← after part text
  number_at rest

-- the line ends here
abbrev pub ends : List ℕ → Bool
ends text = bytes_eq text (10 ∷ [])

-- what a call found, seen by view, is what stands there
abbrev pub Finds : {X Y : Type 0} → (X → Y) → Option X → Option Y → Type 0
Finds view None found = found ≡ None
Finds view (Some x) found = found ≡ Some (view x)
