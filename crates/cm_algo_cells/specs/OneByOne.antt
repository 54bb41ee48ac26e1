-- The order in which the cells are set: one edge after another, the last that was removed first. Only the contracts of the
-- steps cite this.
use Rattle.std.specs.Prelude.{◌≡◌, ◌<◌, ◌≤◌, ℕ, List, [], ◌∷◌, All, drop, length, map, slice_index, slice_index_or, slice_set, take}
use Rattle.cm_spec.specs.Cells.{Plan, pivot_vertex, sum_but, value_at}
use Rattle.cm_spec.specs.Graph.{ends_at}
use Rattle.cm_spec.specs.Rounds.{pivot_of}

-- edges one by one, the last first
abbrev pub one_by_one : Plan → List ℕ → List ℕ → List ℕ
one_by_one p before [] = before
one_by_one p before (e ∷ es) = slice_set (one_by_one p before es) (pivot_vertex p.edges e) (value_at p (one_by_one p before es) e)

-- some elements of a list that follow each other
abbrev pub IsPart : List ℕ → List ℕ → Type 0
IsPart xs part = (at : ℕ) × (n : ℕ) × (part ≡ take n (drop at xs))

-- what is read of some edges: the vertices of their ends, the position of each one's pivot, and its target
pub record EdgeParts : Type 0 where
  pub ends : List (List ℕ)
  pub positions : List ℕ
  pub targets : List ℕ

abbrev pub edge_parts : List (List ℕ) → List ℕ → List ℕ → EdgeParts
edge_parts ends positions targets = record { ends = ends; positions = positions; targets = targets }

-- edges that can be settled: the vertices of their ends have cells, each position is one of k, and each target is below the modulus, which
-- is within the bound
pub record AreReady (k bound : ℕ) (cells : List ℕ) (modulus : ℕ) (parts : EdgeParts) : Type 0 where
  pub modulus_within : modulus ≤ bound
  pub within : All (λ each. All (λ u. u < length cells) each) parts.ends
  pub positions_below : All (λ position. position < k) parts.positions
  pub targets_below : All (λ target. target < modulus) parts.targets
  pub positions_long : length parts.positions ≡ length parts.ends
  pub targets_long : length parts.targets ≡ length parts.ends

-- they are the ends, the positions of the pivots and the targets of some edges of a plan, whose modulus it is
pub record AreOf (p : Plan) (chunk : List ℕ) (modulus : ℕ) (parts : EdgeParts) : Type 0 where
  pub modulus_is : modulus ≡ p.modulus
  pub ends_are : parts.ends ≡ map (ends_at p.edges) chunk
  pub positions_are : parts.positions ≡ map (pivot_of p.edges) chunk
  pub targets_are : parts.targets ≡ map p.target chunk

-- each sum is that of the cells of an edge's ends but that of the vertex at a position
pub record AreSums (cells : List ℕ) (ends : List (List ℕ)) (positions sums : List ℕ) : Type 0 where
  pub long : length sums ≡ length ends
  pub sum : (i : ℕ) → i < length ends → slice_index sums i ≡ sum_but cells (slice_index (slice_index_or ends i []) (slice_index positions i)) (slice_index_or ends i [])
