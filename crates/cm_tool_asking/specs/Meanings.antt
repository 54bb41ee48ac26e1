-- What a file is that is asked for keys.
use Rattle.std.specs.Prelude.{ℕ, List, [], Bool, Result}
use Rattle.std.specs.List.{flat_map}
use Rattle.cm_io.specs.Writing.{joined}
use Rattle.cm_query_batch.specs.Earlier.{with_earlier}

-- What is written of keys: the text of each, by its bytes; what is noted of each, by those before it, its line and its bytes; and whether
-- nothing is amiss with all of them.
pub record Replies : Type 0 where
  pub line : List ℕ → List ℕ
  pub note : List (ℕ × List ℕ) → ℕ × List ℕ → List ℕ
  pub complete : List (ℕ × List ℕ) → Bool

-- the text of all keys
abbrev pub text_of : Replies → List (ℕ × List ℕ) → List ℕ
text_of r keys = flat_map (λ k. r.line k.1) keys

-- and all notes of them
abbrev pub notes_of : Replies → List (ℕ × List ℕ) → List ℕ
notes_of r keys = joined (with_earlier r.note [] keys)

-- What the bytes of a file spell, or what is wrong with them; and what that writes of keys, with the byte that ends a line.
pub record Meaning (L F : Type 0) : Type 0 where
  pub spelling : List ℕ → Result L F
  pub replies : L → ℕ → Replies
