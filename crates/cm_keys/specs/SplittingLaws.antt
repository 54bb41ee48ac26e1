-- What `splitting` proves of the pieces of every text: they are its lines.
use Rattle.std.specs.Prelude.{◌≡◌, ◌≢◌, ◌⊎◌, ◌++◌, ◌∷◌, [], ℕ, List, All}
use Rattle.std.specs.List.{flat_map}

-- the lines, each with its end
abbrev pub with_ends : ℕ → List (List ℕ) → List ℕ
with_ends end lines = flat_map (λ line. line ++ end ∷ []) lines

-- There is a last byte, which is no end.
abbrev pub LacksLastEnd : ℕ → List ℕ → Type 0
LacksLastEnd end bytes = (before : List ℕ) × (last : ℕ) × (bytes ≡ before ++ last ∷ []) × (last ≢ end)

-- No line has an end inside. Each with its end, the lines are the bytes, or these with the end that their last line lacks.
pub record AreLines (end : ℕ) (bytes : List ℕ) (lines : List (List ℕ)) : Type 0 where
  pub without_end : All (λ line. All (λ b. b ≢ end) line) lines
  pub whole : (with_ends end lines ≡ bytes) ⊎ ((with_ends end lines ≡ bytes ++ end ∷ []) × LacksLastEnd end bytes)
