-- The seeds that a build tries, which it takes, and why none works, by 2-cores.
use Rattle.std.specs.Prelude.{◌≡◌, ◌≢◌, ◌+◌, ◌%◌, ◌^◌, ◌≤◌, ℕ, List, length, slice_index, None, Some}
use Rattle.cm_io.specs.Passes.{Told}
use Rattle.cm_spec.specs.Built.{AllCored, IsFirst, cells_under, first_seed, graph_of}
use Rattle.cm_spec.specs.Core.{IsCore}
use Rattle.cm_spec.specs.Lists.{list_of}
use Rattle.cm_spec.specs.Rounds.{rest_of}
use Rattle.cm_spec.specs.Rule.{Rule}

-- the seeds that a build tries: `count` numbers from the first on, modulo 2 ^ 32
abbrev pub seeds_of : ℕ → ℕ → List ℕ
seeds_of first count = list_of (λ i. (first + i) % 2 ^ 32) count

-- a seed is the first of a list whose graph of the keys has an empty 2-core
abbrev pub TakesFirst : Rule → List (ℕ × List ℕ) → ℕ → List ℕ → ℕ → Type 0
TakesFirst r keys c seeds seed = (place : ℕ) × IsFirst r keys c seeds place seed

-- under every seed of a list the graph of the keys has a 2-core with an edge, and under the first it is what peeling leaves
pub record IsCoredUnder (r : Rule) (keys : List (ℕ × List ℕ)) (c : ℕ) (seeds : List ℕ) : Type 0 where
  pub cored : AllCored r keys c seeds
  pub core : IsCore (graph_of r keys c (slice_index seeds 0)) (rest_of (graph_of r keys c (slice_index seeds 0)))

-- a build over known keys returned the number of keys, the seed and the cells, in whatever number of steps
pub record IsBuiltFrom (r : Rule) (told : Told) (c : ℕ) (seeds : List ℕ) (m seed : ℕ) (cells : List ℕ) : Type 0 where
  pub no_fault : told.fault ≡ None
  pub many : m ≡ length told.keys
  pub place : ℕ
  pub chosen : first_seed r told.keys c seeds ≡ Some seed
  pub first : IsFirst r told.keys c seeds place seed
  pub cells_are : cells ≡ cells_under r told.keys c seed

-- how many keys there were in the first pass, and how many of a later one: fewer, or one more, at which it stops
pub record IsChange (first again : ℕ) : Type 0 where
  pub some : 1 ≤ first
  pub differs : again ≢ first
  pub stops : again ≤ first + 1
