-- The half-edges that are left, as the steps of a round see them. Only the contracts of these steps cite this.
use Rattle.std.specs.Prelude.{◌≡◌, ℕ, suc, ◌+◌, ◌*◌, ◌%◌, ◌<◌, Bool, ◌||◌, ◌==◌, nat_lt, if◌then◌else◌, List, [], ◌∷◌, ◌++◌, length, Option, None, Some, slice_get, slice_index}
use Rattle.std.specs.List.{list_any, position_or_len}
use Rattle.cm_spec.specs.Graph.{ends_at}
use Rattle.cm_spec.specs.Rounds.{is_left, pivot_of}
use Rattle.cm_graph_edges.specs.declared.incidence.Half.{Half}
use Rattle.cm_graph_edges.specs.Graph.{Graph, Links, is_free}

-- what is left of an edge whose ends are numbered from j on: the half-edges at the positions that pass the test
abbrev pub halves_where : (ℕ → Bool) → ℕ → List ℕ → List (Option ℕ)
halves_where test j [] = []
halves_where test j (v ∷ vs) = (if test j then Some v else None) ∷ halves_where test (suc j) vs

-- the half-edge of edge e at position j is there exactly if both pass the test
pub record AreLinked (graph : Graph) (test : ℕ → ℕ → Bool) (l : Links) : Type 0 where
  pub vertices : l.vertices ≡ graph.vertices
  pub many : length l.slots ≡ length graph.edges
  pub each : (e : ℕ) → e < length graph.edges → slice_get l.slots e ≡ Some (halves_where (test e) 0 (ends_at graph.edges e))

-- what t rounds leave: all half-edges of an edge that is left, and that of the pivot of each removed one
abbrev pub is_half_left : List (List ℕ) → ℕ → ℕ → ℕ → Bool
is_half_left edges t e j = is_left edges t e || (j == pivot_of edges e)

-- whether the edge at a place has an end of degree one
abbrev pub is_picked : Links → List (List ℕ) → ℕ → Bool
is_picked l edges e = list_any (is_free l) (ends_at edges e)

-- the lowest position of an end of degree one
abbrev pub free_position : Links → List (List ℕ) → ℕ → ℕ
free_position l edges e = position_or_len (is_free l) (ends_at edges e)

-- that position, or 8 if no end of the k has degree one
abbrev pub first_byte : ℕ → Links → List (List ℕ) → ℕ → ℕ
first_byte k l edges e = if nat_lt (free_position l edges e) k then free_position l edges e else 8

-- the half-edges of edge e, whose ends are numbered from j on, except that at position p
abbrev pub other_halves : ℕ → ℕ → ℕ → List ℕ → List Half
other_halves e p j [] = []
other_halves e p j (v ∷ vs) = (if j == p then [] else record { vertex = v; place = 4 * e + j } ∷ []) ++ other_halves e p (suc j) vs

-- the same of several edges, one after another, whose pivots are at these positions
abbrev pub other_halves_all : List (List ℕ) → (ℕ → ℕ) → List ℕ → List Half
other_halves_all edges pivots [] = []
other_halves_all edges pivots (e ∷ es) = other_halves e (pivots e) 0 (ends_at edges e) ++ other_halves_all edges pivots es

-- the position in an edge's byte
abbrev pub pivot_in : List ℕ → ℕ → ℕ
pivot_in bytes e = slice_index bytes e % 4
