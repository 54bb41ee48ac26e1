-- A list of edges, and the linked ones among them, as contracts see them.
use Rattle.std.specs.Prelude.{◌≡◌, ◌≢◌, ℕ, ◌+◌, ◌*◌, ◌/◌, ◌%◌, ◌<◌, ◌≤◌, Bool, false, ◌==◌, List, [], ◌∷◌, Option, None, Some, All, AllPairs, count_by, filter, map, slice_get, slice_index_or, slice_set}
use Rattle.std.specs.List.{list_any, position_or_len}
use Rattle.cm_spec.specs.Lists.{numbers_from}
use Rattle.cm_graph_edges.specs.declared.incidence.Half.{Half}

-- how many vertices there are, how many edges have room, and the ends of each edge
pub record Graph : Type 0 where
  pub vertices : ℕ
  pub room : ℕ
  pub edges : List (List ℕ)

-- edges have two or three ends
abbrev pub IsWidth : ℕ → Type 0
IsWidth k = (2 ≤ k) × (k ≤ 3)

-- A half-edge is an edge at one of its positions. Its place is 4 e + j: position j of the edge of number e.
--
-- how many vertices there are, and for each edge number its half-edges: none if the edge is not linked, or else for each position the
-- end there, as long as that half-edge is not removed
pub record Links : Type 0 where
  pub vertices : ℕ
  pub slots : List (List (Option ℕ))

-- whether a half-edge is there and lies in v
abbrev pub lies_in : ℕ → Option ℕ → Bool
lies_in v None = false
lies_in v (Some u) = u == v

-- whether the edge of a slot is linked and touches v
abbrev pub slot_touches : ℕ → List (Option ℕ) → Bool
slot_touches v slot = list_any (lies_in v) slot

-- how many linked edges touch v
abbrev pub degree_of : Links → ℕ → ℕ
degree_of l v = count_by (slot_touches v) l.slots

-- no vertex has a greater degree
abbrev pub AreDegreesWithin : ℕ → Links → Type 0
AreDegreesWithin most l = (v : ℕ) → v < l.vertices → degree_of l v ≤ most

-- the half-edges of an edge number
abbrev pub slot_of : Links → ℕ → List (Option ℕ)
slot_of l e = slice_index_or l.slots e []

-- the half-edges of a linked edge with these ends
abbrev pub halves_of : List ℕ → List (Option ℕ)
halves_of ends = map Some ends

-- the edge is linked, with these ends
abbrev pub IsLinked : Links → ℕ → List ℕ → Type 0
IsLinked l e ends = slice_get l.slots e ≡ Some (halves_of ends)

-- there is such an edge number, and it is not linked
abbrev pub IsFree : Links → ℕ → Type 0
IsFree l e = slice_get l.slots e ≡ Some []

-- with the edge linked
abbrev pub linked : Links → ℕ → List ℕ → Links
linked l e ends = record { vertices = l.vertices; slots = slice_set l.slots e (halves_of ends) }

-- with the edge not linked
abbrev pub unlinked : Links → ℕ → Links
unlinked l e = record { vertices = l.vertices; slots = slice_set l.slots e [] }

-- all of these edges linked
abbrev pub all_linked : ℕ → List (List ℕ) → Links
all_linked n edges = record { vertices = n; slots = map halves_of edges }

-- the first linked edge that touches v: the only one if v has degree one
abbrev pub sole_of : Links → ℕ → ℕ
sole_of l v = position_or_len (slot_touches v) l.slots

-- the place of the half-edge in v, if v has degree one
abbrev pub place_of : Links → ℕ → ℕ
place_of l v = 4 * sole_of l v + position_or_len (lies_in v) (slot_of l (sole_of l v))

-- whether a vertex has degree one
abbrev pub is_free : Links → ℕ → Bool
is_free l v = degree_of l v == 1

-- this half-edge is there
abbrev pub IsHalf : Links → Half → Type 0
IsHalf l h = slice_get (slot_of l (h.place / 4)) (h.place % 4) ≡ Some (Some h.vertex)

-- these half-edges are there, each of them once
abbrev pub AreHalves : Links → List Half → Type 0
AreHalves l halves = All (IsHalf l) halves × AllPairs (λ a b. a.place ≢ b.place) halves

-- without the half-edge at a place
abbrev pub removed : Links → ℕ → Links
removed l q = record { vertices = l.vertices; slots = slice_set l.slots (q / 4) (slice_set (slot_of l (q / 4)) (q % 4) None) }

-- without these half-edges
abbrev pub removed_all : Links → List Half → Links
removed_all l [] = l
removed_all l (h ∷ halves) = removed_all (removed l h.place) halves

-- the places of the half-edges that are alone in their vertices, for each of these vertices in turn
abbrev pub alone_of : Links → List ℕ → List ℕ
alone_of l vertices = map (place_of l) (filter (is_free l) vertices)

-- for each vertex of these half-edges
abbrev pub places_of : Links → List Half → List ℕ
places_of l halves = alone_of l (map (λ h. h.vertex) halves)

-- for n vertices from `first` on
abbrev pub alone_from : Links → ℕ → ℕ → List ℕ
alone_from l first n = alone_of l (numbers_from first n)
