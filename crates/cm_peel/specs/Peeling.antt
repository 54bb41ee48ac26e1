-- The result of peeling.
use Rattle.std.specs.Prelude.{◌≡◌, ℕ, ◌-◌, ◌/◌, ◌%◌, ◌<◌, Bool, not, nat_lt, List, length, map, filter, slice_index}
use Rattle.cm_spec.specs.Lists.{numbers_from}
use Rattle.cm_spec.specs.Graph.{places}
use Rattle.cm_spec.specs.Rounds.{level_of, pivot_of, order_of, rest_of}

pub record Peeling : Type 0 where
  pub order : List ℕ
  pub levels : List ℕ
  pub pivots : List ℕ
  pub parities : List ℕ
  pub rest : List ℕ

-- the removed edges in order, the pivot of each removed edge, whether an odd number of rounds went before its own, and the residual graph
pub record IsPeelingOf (edges : List (List ℕ)) (p : Peeling) : Type 0 where
  pub order : p.order ≡ order_of edges
  pub pivot : (e : ℕ) → e < length edges → 0 < level_of edges e → slice_index p.pivots e ≡ pivot_of edges e
  pub pivots_long : length p.pivots ≡ length edges
  pub parity : (e : ℕ) → e < length edges → 0 < level_of edges e → slice_index p.parities e ≡ (level_of edges e - 1) % 2
  pub parities_long : length p.parities ≡ length edges
  pub rest : p.rest ≡ rest_of edges

-- the level of each edge
abbrev pub levels_of : List (List ℕ) → List ℕ
levels_of edges = map (level_of edges) (places edges)

-- The byte of a taken edge is 4 times 0 or 1, and the position of its pivot. That of each other edge is 8 or more.

-- the pivots that bytes have
abbrev pub pivots_in : List ℕ → List ℕ
pivots_in bytes = map (λ b. b % 4) bytes

-- the parities that bytes have
abbrev pub parities_in : List ℕ → List ℕ
parities_in bytes = map (λ b. b / 4 % 2) bytes

-- whether an edge is taken
abbrev pub is_taken : List ℕ → ℕ → Bool
is_taken bytes e = nat_lt (slice_index bytes e) 8

-- the edges that are
abbrev pub taken_of : List ℕ → List ℕ
taken_of bytes = filter (is_taken bytes) (numbers_from 0 (length bytes))

-- the edges that are not
abbrev pub untaken_of : List ℕ → List ℕ
untaken_of bytes = filter (λ e. not (is_taken bytes e)) (numbers_from 0 (length bytes))
