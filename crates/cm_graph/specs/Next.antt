-- Slots that differ by one half-edge, as before and after it is linked or removed.
use Rattle.std.specs.Prelude.{◌≡◌, ◌≢◌, ℕ, zero, suc, ◌/◌, ◌%◌, ◌<◌, List, [], ◌∷◌, length, Option, None, Some, slice_index_or, slice_set}
use Rattle.cm_graph_edges.specs.declared.incidence.Half.{Half}

-- the half-edges of an edge number
abbrev pub halves_at : List (List (Option ℕ)) → ℕ → List (Option ℕ)
halves_at slots e = slice_index_or slots e []

-- the vertex at position j of the edge of number e, if that half-edge is there
abbrev pub half_at : List (List (Option ℕ)) → ℕ → ℕ → Option ℕ
half_at slots e j = slice_index_or (halves_at slots e) j None

-- with the half-edge h and without it
pub record AreNext (less more : List (List (Option ℕ))) (h : Half) : Type 0 where
  pub within : h.place / 4 < length less
  pub is : more ≡ slice_set less (h.place / 4) (halves_at more (h.place / 4))
  pub none : half_at less (h.place / 4) (h.place % 4) ≡ None
  pub some : half_at more (h.place / 4) (h.place % 4) ≡ Some h.vertex
  pub others : (i : ℕ) → i ≢ h.place % 4 → half_at less (h.place / 4) i ≡ half_at more (h.place / 4) i

-- no vertex stands at two positions of one edge, and an edge has at most four positions
pub record AreApart (slots : List (List (Option ℕ))) : Type 0 where
  pub once : (e i j v : ℕ) → half_at slots e i ≡ Some v → half_at slots e j ≡ Some v → i ≡ j
  pub four : (e i v : ℕ) → half_at slots e i ≡ Some v → i < 4

-- a slot with a half-edge in v at position j: there is none at the positions that it had no room for
abbrev pub with_half : List (Option ℕ) → ℕ → ℕ → List (Option ℕ)
with_half [] zero v = Some v ∷ []
with_half [] (suc j) v = None ∷ with_half [] j v
with_half (x ∷ xs) zero v = Some v ∷ xs
with_half (x ∷ xs) (suc j) v = x ∷ with_half xs j v
