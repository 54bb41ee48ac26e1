-- Graphs: vertices are the numbers below some n, an edge is the list of its ends, and a graph is a list of edges. An edge is
-- named by its place in the list, from 0, so that equal edges at two places are two edges.
use Rattle.std.specs.Prelude.{◌≢◌, ◌≡◌, ℕ, ◌<◌, Bool, ◌==◌, List, [], length, All, AllPairs, count_by, slice_index_or}
use Rattle.std.specs.List.{list_any}
use Rattle.std.specs.List.Sorted.{IsStrictlyIncreasing}
use Rattle.cm_spec.specs.Lists.{numbers_from}

-- the ends of an edge over n vertices are distinct vertices
abbrev pub IsEdge : ℕ → List ℕ → Type 0
IsEdge n ends = All (λ v. v < n) ends × AllPairs (λ u v. u ≢ v) ends

-- all edges have k ends over n vertices
abbrev pub AreEdges : ℕ → ℕ → List (List ℕ) → Type 0
AreEdges k n edges = All (λ ends. (length ends ≡ k) × IsEdge n ends) edges

-- whether v is one of the ends
abbrev pub touches : ℕ → List ℕ → Bool
touches v ends = list_any (λ u. u == v) ends

-- the ends of the edge at a place
abbrev pub ends_at : List (List ℕ) → ℕ → List ℕ
ends_at edges e = slice_index_or edges e []

-- the places of a graph, rising
abbrev pub places : List (List ℕ) → List ℕ
places edges = numbers_from 0 (length edges)

-- a set of places, kept as a rising list
abbrev pub ArePlaces : List (List ℕ) → List ℕ → Type 0
ArePlaces edges these = IsStrictlyIncreasing these × All (λ e. e < length edges) these

-- the degree of v in a set of places: how many of these edges touch it
abbrev pub degree_in : List (List ℕ) → List ℕ → ℕ → ℕ
degree_in edges these v = count_by (λ e. touches v (ends_at edges e)) these
