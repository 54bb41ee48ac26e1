-- The cells of a peeled graph.
use Rattle.std.specs.Prelude.{◌≡◌, ◌≢◌, ℕ, zero, suc, ◌+◌, ◌-◌, ◌%◌, ◌<◌, ◌≤◌, Bool, not, nat_eq, count_by, ◌==◌, if◌then◌else◌, List, [], ◌∷◌, length, replicate, slice_index, slice_set}
use Rattle.std.specs.List.{sum_by}
use Rattle.cm_spec.specs.Graph.{ends_at}
use Rattle.cm_spec.specs.Rounds.{removed_after, pivot_of}
use Rattle.cm_spec.specs.Rule.{Rule}

-- the vertices and edges, the target of each edge by its place, the modulus, and the value of an untouched cell
pub record Plan : Type 0 where
  pub vertices : ℕ
  pub edges : List (List ℕ)
  pub target : ℕ → ℕ
  pub modulus : ℕ
  pub idle : ℕ

-- the plan of a rule for a graph over n vertices, with a tag for each edge
abbrev pub plan_of : Rule → ℕ → List (List ℕ) → List ℕ → Plan
plan_of r n edges tags = record {
  vertices = n;
  edges = edges;
  target = λ e. r.target e (pivot_of edges e) (slice_index tags e);
  modulus = r.modulus (length edges);
  idle = r.idle;
}

-- the vertex at the pivot of an edge
abbrev pub pivot_vertex : List (List ℕ) → ℕ → ℕ
pivot_vertex edges e = slice_index (ends_at edges e) (pivot_of edges e)

-- the cell of u, or 0 if it is v
abbrev pub cell_but : List ℕ → ℕ → ℕ → ℕ
cell_but cells v u = if u == v then 0 else slice_index cells u

-- the cells of the ends other than v, added up
abbrev pub sum_but : List ℕ → ℕ → List ℕ → ℕ
sum_but cells v ends = sum_by (cell_but cells v) ends

-- the number below the modulus that brings a sum to the target
unfoldable pub completing : ℕ → ℕ → ℕ → ℕ
completing modulus target sum = (target + (modulus - sum % modulus)) % modulus

-- the value of the cell at the pivot of an edge
abbrev pub value_at : Plan → List ℕ → ℕ → ℕ
value_at p cells e = completing p.modulus (p.target e) (sum_but cells (pivot_vertex p.edges e) (ends_at p.edges e))

-- edges at once: each value is taken from the cells before all of them
abbrev pub at_once : Plan → List ℕ → List ℕ → List ℕ
at_once p before [] = before
at_once p before (e ∷ es) = slice_set (at_once p before es) (pivot_vertex p.edges e) (value_at p before e)

-- all cells untouched
abbrev pub all_idle : Plan → List ℕ
all_idle p = replicate p.vertices p.idle

-- the cells once d rounds from the one after t rounds on are done, the last first
unfoldable pub cells_from : Plan → ℕ → ℕ → List ℕ
cells_from p zero t = all_idle p
cells_from p (suc d) t = at_once p (cells_from p d (suc t)) (removed_after p.edges t)

-- the cells of all rounds, from the last to the first
abbrev pub cells_of : Plan → List ℕ
cells_of p = cells_from p (length p.edges) 0

-- a cell that is not idle
abbrev pub is_busy : ℕ → ℕ → Bool
is_busy idle x = not (nat_eq x idle)

-- the cells of each edge's ends add up to its target; each edge has a vertex of its own at its pivot, whose cell is below the
-- modulus; all other cells are idle
pub record AreSolved (p : Plan) (cells : List ℕ) : Type 0 where
  pub long : length cells ≡ p.vertices
  pub sums : (e : ℕ) → e < length p.edges → sum_by (slice_index cells) (ends_at p.edges e) % p.modulus ≡ p.target e
  pub within : (e : ℕ) → e < length p.edges → pivot_vertex p.edges e < p.vertices
  pub apart : (e f : ℕ) → e < length p.edges → f < length p.edges → pivot_vertex p.edges e ≡ pivot_vertex p.edges f → e ≡ f
  pub below : (e : ℕ) → e < length p.edges → slice_index cells (pivot_vertex p.edges e) < p.modulus
  pub idle : (v : ℕ) → v < p.vertices → ((e : ℕ) → e < length p.edges → pivot_vertex p.edges e ≢ v) → slice_index cells v ≡ p.idle
  -- if no value below the modulus is idle, as many cells are busy as there are edges
  pub busy : p.modulus ≤ p.idle → count_by (is_busy p.idle) cells ≡ length p.edges
