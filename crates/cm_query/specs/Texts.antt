-- What a query writes of keys with their lines, under a function from the bytes of a key to its answer.
use Rattle.std.specs.Prelude.{ℕ, List, [], ◌∷◌, Option, None, Some, Bool, if◌then◌else◌, codes, decimal}
use Rattle.std.specs.List.{flat_map}
use Rattle.cm_io.specs.Writing.{joined}
use Rattle.cm_query.specs.Repeats.{is_repeated}
use Rattle.cm_query_batch.specs.Earlier.{with_earlier}

-- the line of a key with an answer: the key, an arrow, the answer in decimal, and the byte that ends a line
abbrev pub line_of : ℕ → List ℕ → Option ℕ → List ℕ
line_of end key None = []
line_of end key (Some v) = joined (key ∷ codes " -> " ∷ decimal v ∷ (end ∷ []) ∷ [])

-- the lines of all keys
abbrev pub text_of : ℕ → (List ℕ → Option ℕ) → List (ℕ × List ℕ) → List ℕ
text_of end f keys = flat_map (λ k. line_of end k.1 (f k.1)) keys

-- the note of a key without an answer, by its line
abbrev pub unknown_note : ℕ → List ℕ
unknown_note line = joined (codes "cmph: line " ∷ decimal line ∷ codes ": key is unknown\n" ∷ [])

-- the note of a key whose answer an earlier key has
abbrev pub repeated_note : ℕ → ℕ → List ℕ
repeated_note line v = joined (codes "cmph: line " ∷ decimal line ∷ codes ": value " ∷ decimal v ∷ codes " is repeated\n" ∷ [])

-- what is noted of a key, by its line, its answer, and whether this is repeated
abbrev pub note_of : ℕ → Option ℕ → Bool → List ℕ
note_of line None repeated = unknown_note line
note_of line (Some v) repeated = if repeated then repeated_note line v else []

-- the notes of all keys
abbrev pub notes_of : (List ℕ → Option ℕ) → List (ℕ × List ℕ) → List ℕ
notes_of f keys = joined (with_earlier (λ earlier k. note_of k.0 (f k.1) (is_repeated f earlier (f k.1))) [] keys)
