-- The lines of a text, each with the byte 10 that ends it.
use Rattle.std.specs.Prelude.{◌==◌, ℕ, List, [], ◌∷◌, Bool, true, false, if◌then◌else◌}

-- a byte before the first line; if there is none, the byte is a line
abbrev pub push_first : ℕ → List (List ℕ) → List (List ℕ)
push_first b [] = (b ∷ []) ∷ []
push_first b (l ∷ ls) = (b ∷ l) ∷ ls

-- the bytes cut after each byte 10; only what is last may lack this byte
abbrev pub lines_in : List ℕ → List (List ℕ)
lines_in [] = []
lines_in (b ∷ bs) = if b == 10 then (b ∷ []) ∷ lines_in bs else push_first b (lines_in bs)

-- the first of them; nothing of no bytes
abbrev pub front_line : List ℕ → List ℕ
front_line [] = []
front_line (b ∷ bs) = if b == 10 then b ∷ [] else b ∷ front_line bs

-- nothing is left
abbrev pub is_empty : List ℕ → Bool
is_empty [] = true
is_empty (b ∷ bs) = false

-- a whole line: its last byte is 10, and no other is
abbrev pub is_line : List ℕ → Bool
is_line [] = false
is_line (b ∷ bs) = if b == 10 then is_empty bs else is_line bs
