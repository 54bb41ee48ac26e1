-- Marks of answers: a cell for each number, which is 1 if an earlier key has that answer.
use Rattle.std.specs.Prelude.{◌≡◌, ◌==◌, ◌<◌, ◌++◌, ℕ, List, Option, None, Some, Bool, false, length, take, slice_index, slice_set}
use Rattle.cm_query.specs.Repeats.{is_repeated, repeats_after}

-- the answer is there and is marked
abbrev pub is_marked : List ℕ → Option ℕ → Bool
is_marked cells None = false
is_marked cells (Some v) = slice_index cells v == 1

-- the marks with that of an answer
abbrev pub marked : List ℕ → Option ℕ → List ℕ
marked cells None = cells
marked cells (Some v) = slice_set cells v 1

-- Marks that run ahead of the keys that were reached: a cell for each number, and of the first keys that wait whether an earlier key has
-- the answer.
pub record Marked : Type 0 where
  pub cells : List ℕ
  pub repeated : List Bool

-- The marks are those of the answers of the keys that were reached, and of the first that wait.
pub record AreMarks (f : List ℕ → Option ℕ) (reached waiting : List (ℕ × List ℕ)) (m : Marked) : Type 0 where
  pub cells : (v : ℕ) → v < length m.cells → is_marked m.cells (Some v) ≡ is_repeated f (reached ++ take (length m.repeated) waiting) (Some v)
  pub repeated : m.repeated ≡ repeats_after f reached (take (length m.repeated) waiting)
