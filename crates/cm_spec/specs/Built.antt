-- The result of a build over numbered keys: each key with the number of its line, in order.
use Rattle.std.specs.Prelude.{◌≡◌, ℕ, ◌<◌, Bool, nat_eq, List, [], length, map, find, slice_index, slice_index_or, Option}
use Rattle.cm_spec.specs.Lookup2.{words}
use Rattle.cm_spec.specs.Rounds.{rest_of}
use Rattle.cm_spec.specs.Core.{HasEmptyCore}
use Rattle.cm_spec.specs.Rule.{Rule}
use Rattle.cm_spec.specs.Cells.{plan_of, cells_of}
use Rattle.cm_spec.specs.Chm.{Chm, chm_rule}

-- the bytes of key number i, counted from 0
abbrev pub key_at : List (ℕ × List ℕ) → ℕ → List ℕ
key_at keys i = (slice_index_or keys i (0, [])).1

-- the ends of a numbered key over n vertices
abbrev pub edge_of : Rule → ℕ → ℕ → ℕ × List ℕ → List ℕ
edge_of r n seed k = r.edge (words k.1 seed) n

-- the tag of a numbered key
abbrev pub tag_of : Rule → ℕ → ℕ × List ℕ → ℕ
tag_of r seed k = r.tag (words k.1 seed)

-- the graph of the keys under a seed
abbrev pub graph_of : Rule → List (ℕ × List ℕ) → ℕ → ℕ → List (List ℕ)
graph_of r keys c seed = map (edge_of r (r.size (length keys) c) seed) keys

-- the cells of that graph
abbrev pub cells_under : Rule → List (ℕ × List ℕ) → ℕ → ℕ → List ℕ
cells_under r keys c seed = cells_of (plan_of r (r.size (length keys) c) (graph_of r keys c seed) (map (tag_of r seed) keys))

-- the CHM function of keys under a seed
abbrev pub chm_under : List (ℕ × List ℕ) → ℕ → ℕ → Chm
chm_under keys c seed = record { keys = length keys; ratio = c; seed = seed; cells = cells_under chm_rule keys c seed }

-- whether peeling removes every edge of the keys under a seed
abbrev pub is_peeled : Rule → List (ℕ × List ℕ) → ℕ → ℕ → Bool
is_peeled r keys c seed = nat_eq (length (rest_of (graph_of r keys c seed))) 0

-- the first seed of a list under which peeling removes every edge
abbrev pub first_seed : Rule → List (ℕ × List ℕ) → ℕ → List ℕ → Option ℕ
first_seed r keys c seeds = find (is_peeled r keys c) seeds

-- the seed is the one at this place of the list, its graph has an empty 2-core, and that of each seed before it has not
pub record IsFirst (r : Rule) (keys : List (ℕ × List ℕ)) (c : ℕ) (seeds : List ℕ) (place seed : ℕ) : Type 0 where
  pub within : place < length seeds
  pub at : seed ≡ slice_index seeds place
  pub empty : HasEmptyCore (graph_of r keys c seed)
  pub earlier : (j : ℕ) → j < place → HasEmptyCore (graph_of r keys c (slice_index seeds j)) → ⊥

-- under every seed of the list the graph has a 2-core with an edge
abbrev pub AllCored : Rule → List (ℕ × List ℕ) → ℕ → List ℕ → Type 0
AllCored r keys c seeds = (j : ℕ) → j < length seeds → HasEmptyCore (graph_of r keys c (slice_index seeds j)) → ⊥
