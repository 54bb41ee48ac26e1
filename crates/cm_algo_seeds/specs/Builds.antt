-- The result of a build over numbered keys.
use Rattle.std.specs.Prelude.{◌≡◌, ◌≢◌, ℕ, ◌+◌, ◌*◌, ◌≤◌, List, [], Contains, count_by, length, None, Some}
use Rattle.cm_algo_scheme.specs.declared.built.Built.{Built}
use Rattle.cm_io.specs.Passes.{Told}
use Rattle.cm_spec.specs.declared.limits.TheConstants.{MAX_KEYS}
use Rattle.cm_spec.specs.Cells.{AreSolved, cells_of, is_busy, plan_of}
use Rattle.cm_spec.specs.Rounds.{rest_of}
use Rattle.cm_spec.specs.Rule.{Rule}
use Rattle.cm_spec.specs.Built.{graph_of, cells_under, first_seed, IsFirst}

-- one seed: peeling removes every edge, and these are the cells
abbrev pub IsGiven : Rule → List (ℕ × List ℕ) → ℕ → ℕ → List ℕ → Type 0
IsGiven r keys c seed cells = (rest_of (graph_of r keys c seed) ≡ []) × (cells ≡ cells_under r keys c seed)

-- the bound and the cells of a table over n vertices, for a graph that peeling leaves no edge of
pub record IsSolution (r : Rule) (n : ℕ) (edges : List (List ℕ)) (tags : List ℕ) (bound : ℕ) (cells : List ℕ) : Type 0 where
  pub empty : rest_of edges ≡ []
  pub bound_is : bound ≡ r.bound (length edges)
  pub cells_are : cells ≡ cells_of (plan_of r n edges tags)
  pub solved : AreSolved (plan_of r n edges tags) cells

-- a build took the first seed of a list with an empty 2-core and returned its cells, in at most 8 steps for each of an edge's k ends
-- and each seed that it tried
pub record IsBuilt (r : Rule) (keys : List (ℕ × List ℕ)) (c : ℕ) (seeds : List ℕ) (m seed : ℕ) (cells : List ℕ) (k before after : ℕ) : Type 0 where
  pub place : ℕ
  pub many : m ≡ length keys
  pub chosen : first_seed r keys c seeds ≡ Some seed
  pub first : IsFirst r keys c seeds place seed
  pub cells_are : cells ≡ cells_under r keys c seed
  pub steps : after ≤ before + 8 * (k * length keys) * (place + 1)

-- what was built, whatever the keys are: at this ratio, under a seed of the list, and its table, of which contracts see the bound and the
-- cells, has those that the rule gives this many keys
pub record IsMade {T : Type 0} (bound_of : T → ℕ) (cells_in : T → List ℕ) (r : Rule) (c : ℕ) (seeds : List ℕ) (built : Built T) : Type 0 where
  pub many : (1 ≤ built.m) × (built.m ≤ MAX_KEYS) × (built.c ≡ c)
  pub sizes : (bound_of built.cells ≡ r.bound built.m) × (length (cells_in built.cells) ≡ r.size built.m c)
  pub busy : r.modulus built.m ≤ r.idle → count_by (is_busy r.idle) (cells_in built.cells) ≡ built.m
  pub chosen : Contains seeds built.seed

-- one seed: the keys have come to their end without a fault, this is their graph, and peeling leaves an edge of it
pub record IsLeft (r : Rule) (told : Told) (c seed : ℕ) (edges : List (List ℕ)) : Type 0 where
  pub ended : told.fault ≡ None
  pub many : length edges ≡ length told.keys
  pub is : edges ≡ graph_of r told.keys c seed
  pub left : rest_of (graph_of r told.keys c seed) ≢ []
