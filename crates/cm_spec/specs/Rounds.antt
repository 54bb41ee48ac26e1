-- Peeling by rounds. A round removes all edges that have a vertex of degree one when the round begins.
use Rattle.std.specs.Prelude.{ℕ, zero, suc, ◌-◌, Bool, true, not, ◌&&◌, ◌==◌, nat_le, if◌then◌else◌, List, [], ◌++◌, length, filter}
use Rattle.std.specs.List.{list_all, prefix_len, position_or_len}
use Rattle.cm_spec.specs.Lists.{has}
use Rattle.cm_spec.specs.Graph.{ends_at, places, degree_in}

-- whether each end of the edge has degree two or more among these places
abbrev pub is_held : List (List ℕ) → List ℕ → ℕ → Bool
is_held edges these e = list_all (λ v. nat_le 2 (degree_in edges these v)) (ends_at edges e)

-- the places that are left after t rounds
unfoldable pub left_after : List (List ℕ) → ℕ → List ℕ
left_after edges zero = places edges
left_after edges (suc t) = filter (is_held edges (left_after edges t)) (left_after edges t)

-- the places that the round after t rounds removes, rising
abbrev pub removed_after : List (List ℕ) → ℕ → List ℕ
removed_after edges t = filter (λ e. not (is_held edges (left_after edges t) e)) (left_after edges t)

-- whether an edge is left after t rounds
abbrev pub is_left : List (List ℕ) → ℕ → ℕ → Bool
is_left edges zero e = true
is_left edges (suc t) e = is_left edges t e && is_held edges (left_after edges t) e

-- the residual graph: the places that no round removes
abbrev pub rest_of : List (List ℕ) → List ℕ
rest_of edges = left_after edges (length edges)

-- the round that removes the edge: the least t after which it is not left, or 0 if it is in the residual graph
abbrev pub level_of : List (List ℕ) → ℕ → ℕ
level_of edges e = if has (rest_of edges) e then 0 else prefix_len (λ t. has (left_after edges t) e) (places edges)

-- the lowest position whose vertex has degree one when the edge's round begins
abbrev pub pivot_of : List (List ℕ) → ℕ → ℕ
pivot_of edges e = position_or_len (λ v. degree_in edges (left_after edges (level_of edges e - 1)) v == 1) (ends_at edges e)

-- the removed edges of the first t rounds, by round and then by number
abbrev pub order_upto : List (List ℕ) → ℕ → List ℕ
order_upto edges zero = []
order_upto edges (suc t) = order_upto edges t ++ removed_after edges t

-- the removed edges of all rounds
abbrev pub order_of : List (List ℕ) → List ℕ
order_of edges = order_upto edges (length edges)
