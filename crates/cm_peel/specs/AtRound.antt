-- The states of peeling. Only the contracts of its steps cite this.
use Rattle.std.specs.Prelude.{◌≡◌, ◌≢◌, ℕ, suc, ◌+◌, ◌-◌, ◌*◌, ◌/◌, ◌%◌, ◌<◌, ◌≤◌, ◌==◌, Bool, false, true, not, ◌&&◌, ◌||◌, min, if◌then◌else◌, List, [], ◌∷◌, ◌++◌, length, map, slice_index}
use Rattle.std.specs.List.{list_any}
use Rattle.cm_spec.specs.Lists.{has}
use Rattle.cm_spec.specs.Graph.{AreEdges}
use Rattle.cm_spec.specs.Rounds.{is_left, removed_after, level_of, pivot_of}
use Rattle.cm_graph_edges.specs.Graph.{Graph, Links}
use Rattle.cm_peel.specs.Incident.{AreLinked, is_half_left, is_picked, free_position, other_halves_all}
use Rattle.cm_peel.specs.Peeling.{is_taken}
use Rattle.cm_peel.specs.SetLaws.{AreApart}
use Rattle.cm_spec.specs.declared.limits.TheConstants.{MAX_EDGES}

-- the edges have k ends each, and k and their number are within the limits
pub record IsSmall (k : ℕ) (graph : Graph) : Type 0 where
  pub ends : k ≤ 3
  pub fits : length graph.edges ≤ MAX_EDGES
  pub edges : AreEdges k graph.vertices graph.edges

-- what an edge that the round after t rounds removes has in its byte beside its position
abbrev pub tag_of : ℕ → ℕ
tag_of t = 4 * (t % 2)

-- the byte of a removed edge
abbrev pub byte_of : List (List ℕ) → ℕ → ℕ
byte_of edges e = tag_of (level_of edges e - 1) + pivot_of edges e

-- the place of an edge that this round removes, at another position than its pivot's
abbrev pub IsOtherPlace : List (List ℕ) → ℕ → ℕ → Type 0
IsOtherPlace edges t q = (has (removed_after edges t) (q / 4) ≡ true) × (q % 4 ≢ pivot_of edges (q / 4))

-- all such places of some edges
abbrev pub other_places : List (List ℕ) → List ℕ → List ℕ
other_places edges es = map (λ h. h.place) (other_halves_all edges (pivot_of edges) es)

-- what t rounds leave, without the half-edges at some places
abbrev pub is_half_kept : List (List ℕ) → ℕ → List ℕ → ℕ → ℕ → Bool
is_half_kept edges t gone e j = is_half_left edges t e j && not (has gone (4 * e + j))

-- in that round: the half-edges at the places in `gone` are removed so far, and `next` has the edges that this has freed
pub record InRound (graph : Graph) (t : ℕ) (gone : List ℕ) (l : Links) (next bytes : List ℕ) : Type 0 where
  pub linked : AreLinked graph (is_half_kept graph.edges t gone) l
  pub others : (q : ℕ) → has gone q ≡ true → IsOtherPlace graph.edges t q
  pub apart : AreApart next
  pub inside : (e : ℕ) → has next e ≡ true → e < length graph.edges
  pub members : (e : ℕ) → e < length graph.edges → has next e ≡ (is_left graph.edges (suc t) e && is_picked l graph.edges e)
  pub bytes_long : length bytes ≡ length graph.edges
  pub byte : (e : ℕ) → e < length graph.edges → is_left graph.edges (suc t) e ≡ false → slice_index bytes e ≡ byte_of graph.edges e
  -- an edge that is freed has the lowest position of an end of degree one
  pub next_byte : (e : ℕ) → has next e ≡ true → slice_index bytes e ≡ tag_of (suc t) + free_position l graph.edges e
  pub taken : (e : ℕ) → e < length graph.edges → is_taken bytes e ≡ (has next e || not (is_left graph.edges (suc t) e))

-- a round can be worked on: t rounds went before, these edges are the ones that it removes, and none of its half-edges is removed yet
pub record CanUnlink (k : ℕ) (graph : Graph) (t : ℕ) (removed : List ℕ) (l : Links) (bytes : List ℕ) : Type 0 where
  pub small : IsSmall k graph
  pub round : removed ≡ removed_after graph.edges t
  pub early : t < length graph.edges
  pub state : InRound graph t [] l [] bytes

-- before the first round: no edge is taken, and each level is 0
pub record AreFresh (graph : Graph) (levels bytes : List ℕ) : Type 0 where
  -- levels are kept of all edges, or of none
  pub levels_kept : 0 < length levels → length levels ≡ length graph.edges
  pub level : (e : ℕ) → e < length levels → slice_index levels e ≡ 0
  pub bytes_long : length bytes ≡ length graph.edges
  pub byte : (e : ℕ) → e < length bytes → slice_index bytes e ≡ 8

-- t rounds went before, and the edges of the next one are taken; none of its half-edges is removed yet
pub record AtRound (graph : Graph) (t : ℕ) (l : Links) (levels bytes : List ℕ) : Type 0 where
  pub round : InRound graph t [] l [] bytes
  -- levels are kept of all edges, or of none
  pub levels_kept : 0 < length levels → length levels ≡ length graph.edges
  -- the edges of the next round have their level already
  pub level : (e : ℕ) → e < length levels → slice_index levels e ≡ (if is_left graph.edges (suc t) e then 0 else level_of graph.edges e)

-- whether one of these places is the edge's
abbrev pub is_listed : List ℕ → ℕ → Bool
is_listed places e = list_any (λ q. q / 4 == e) places

-- the least of a byte and the bytes that an edge's places give it: the tag and the position
abbrev pub least : ℕ → List ℕ → ℕ → ℕ → ℕ
least tag [] e byte = byte
least tag (q ∷ places) e byte = if q / 4 == e then min (tag + q % 4) (least tag places e byte) else least tag places e byte

-- the edges of some places are taken for the round after t rounds and one more: an edge that was not taken stands at the end of the
-- list now, and each gets the least byte, except those of the round before, which stay
pub record AreTaken (t : ℕ) (places bytes bytes' next next' : List ℕ) : Type 0 where
  pub fresh : List ℕ
  pub next_is : next' ≡ next ++ fresh
  pub apart : AreApart fresh
  pub members : (e : ℕ) → has fresh e ≡ (is_listed places e && not (is_taken bytes e))
  pub bytes_long : length bytes' ≡ length bytes
  pub byte : (e : ℕ) → e < length bytes → slice_index bytes' e ≡ (if slice_index bytes e / 4 == t % 2 then slice_index bytes e else least (tag_of (suc t)) places e (slice_index bytes e))
