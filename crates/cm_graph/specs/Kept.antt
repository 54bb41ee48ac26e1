-- What the degree and the xor that are kept of each vertex say of its half-edges.
use Rattle.std.specs.Prelude.{◌≡◌, ℕ, suc, ◌+◌, ◌-◌, ◌*◌, ◌/◌, ◌%◌, ◌<◌, ◌≤◌, if◌then◌else◌, List, [], ◌∷◌, length, Option, count_by, bit_xor, slice_index_or}
use Rattle.std.specs.List.{position_or_len}
use Rattle.cm_graph_edges.specs.Graph.{lies_in, slot_touches}
use Rattle.cm_graph.specs.Next.{AreApart}
use Rattle.cm_graph.specs.declared.wide.Vertex.{Vertex}
use Rattle.cm_spec.specs.declared.limits.TheConstants.{MAX_EDGES}

-- what the slot of number e adds to the xor of v: the place of its half-edge in v
abbrev pub share_of : ℕ → ℕ → List (Option ℕ) → ℕ
share_of v e slot = if slot_touches v slot then 4 * e + position_or_len (lies_in v) slot else 0

-- the xor of the places of the half-edges in v, where the slots are numbered from e
abbrev pub xor_of : ℕ → ℕ → List (List (Option ℕ)) → ℕ
xor_of v e [] = 0
xor_of v e (s ∷ ss) = bit_xor (share_of v e s) (xor_of v (suc e) ss)

-- each vertex has its degree, and the xor of the places of its half-edges
pub record AreKept (vertices : List Vertex) (slots : List (List (Option ℕ))) : Type 0 where
  pub few : length slots ≤ MAX_EDGES
  pub fits : length vertices < 4294967296
  pub apart : AreApart slots
  pub degree : (v : ℕ) (x : Vertex) → v < length vertices → (slice_index_or vertices v x).degree ≡ count_by (slot_touches v) slots
  pub places : (v : ℕ) (x : Vertex) → v < length vertices → (slice_index_or vertices v x).places ≡ xor_of v 0 slots

-- a degree above a xor of 26 bits, in one number
abbrev pub vertex_of : ℕ → Vertex
vertex_of word = record { degree = word / 67108864; places = word % 67108864 }

-- a vertex with the half-edge at a place, and without it
abbrev pub with_place : ℕ → Vertex → Vertex
with_place q x = record { degree = x.degree + 1; places = bit_xor x.places q }

abbrev pub without_place : ℕ → Vertex → Vertex
without_place q x = record { degree = x.degree - 1; places = bit_xor x.places q }
