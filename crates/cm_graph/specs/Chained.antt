-- What the chains of places say of the half-edges.
use Rattle.std.specs.Prelude.{◌≡◌, ℕ, zero, suc, ◌-◌, ◌*◌, ◌/◌, ◌%◌, ◌<◌, ◌≤◌, ◌==◌, if◌then◌else◌, Bool, List, [], ◌∷◌, length, Option, count_by, slice_index, slice_index_or, slice_set}
use Rattle.cm_graph_edges.specs.Graph.{lies_in, slot_touches}
use Rattle.cm_graph.specs.Next.{half_at, AreApart}
use Rattle.cm_graph.specs.declared.linked.Chain.{Chain}
use Rattle.cm_spec.specs.declared.limits.TheConstants.{MAX_EDGES}

-- n places from q on, each followed by what `next` has for it
abbrev pub chain_of : List ℕ → ℕ → ℕ → List ℕ
chain_of next q zero = []
chain_of next q (suc n) = q ∷ chain_of next (slice_index next q) n

-- the places of a chain
abbrev pub chain_from : List ℕ → Chain → List ℕ
chain_from next x = chain_of next x.first x.degree

-- the element before q in a list, or else the last
abbrev pub before_in : ℕ → List ℕ → ℕ
before_in q [] = 0
before_in q (a ∷ []) = a
before_in q (a ∷ b ∷ rest) = if b == q then a else before_in q (b ∷ rest)

-- a chain without its place q, and `next` then
abbrev pub chain_without : List ℕ → Chain → ℕ → Chain
chain_without next x q = record { degree = x.degree - 1; first = if x.first == q then slice_index next q else x.first }

abbrev pub next_without : List ℕ → Chain → ℕ → List ℕ
next_without next x q = if x.first == q then next else slice_set next (before_in q (chain_from next x)) (slice_index next q)

-- how often q stands in a list
abbrev pub times : ℕ → List ℕ → ℕ
times q list = count_by (λ p. p == q) list

-- whether q is the place of a half-edge in v
abbrev pub is_place : List (List (Option ℕ)) → ℕ → ℕ → Bool
is_place slots v q = lies_in v (half_at slots (q / 4) (q % 4))

-- each vertex has its degree, and a chain that has each of its places once, and no other; `next` has a number for each place
pub record AreChained (chains : List Chain) (next : List ℕ) (slots : List (List (Option ℕ))) : Type 0 where
  pub few : length slots ≤ MAX_EDGES
  pub fits : length chains < 4294967296
  pub long : length next ≡ 4 * length slots
  pub apart : AreApart slots
  pub degree : (v : ℕ) (x : Chain) → v < length chains → (slice_index_or chains v x).degree ≡ count_by (slot_touches v) slots
  pub places : (v q : ℕ) (x : Chain) → v < length chains → times q (chain_from next (slice_index_or chains v x)) ≡ (if is_place slots v q then 1 else 0)
