-- The 2-core of a graph: the greatest set of edges in which each vertex that an edge touches is touched by two or more.
use Rattle.std.specs.Prelude.{ℕ, ◌≤◌, List, [], All, Contains}
use Rattle.std.specs.List.Sorted.{IsStrictlyIncreasing}
use Rattle.cm_spec.specs.Graph.{ends_at, degree_in, ArePlaces}

-- each end of each edge of the set has degree two or more in it
abbrev pub IsClosed : List (List ℕ) → List ℕ → Type 0
IsClosed edges these = All (λ e. All (λ v. 2 ≤ degree_in edges these v) (ends_at edges e)) these

-- the list is rising, and has a place exactly if some closed set has it
pub record IsCore (edges : List (List ℕ)) (core : List ℕ) : Type 0 where
  pub rising : IsStrictlyIncreasing core
  pub from : (e : ℕ) → Contains core e → (these : List ℕ) × ArePlaces edges these × IsClosed edges these × Contains these e
  pub to : (e : ℕ) (these : List ℕ) → ArePlaces edges these → IsClosed edges these → Contains these e → Contains core e

-- no edge lies in a closed set
abbrev pub HasEmptyCore : List (List ℕ) → Type 0
HasEmptyCore edges = IsCore edges []
