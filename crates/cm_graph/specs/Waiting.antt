-- Half-edges that are in the slots of their edges, or wait in a bucket.
use Rattle.std.specs.Prelude.{◌≡◌, ℕ, ◌+◌, ◌/◌, ◌%◌, ◌<◌, ◌≤◌, ◌==◌, if◌then◌else◌, List, [], length, Option, Some, All, count_by, is_some, map, slice_index_or, sum_by, Vec}
use Rattle.std.specs.declared.alloc.Global.{Global}
use Rattle.cm_spec.specs.Graph.{AreEdges, ends_at}
use Rattle.cm_graph_edges.specs.Graph.{Links}
use Rattle.cm_graph.specs.Next.{halves_at, half_at}
use Rattle.cm_graph_edges.specs.declared.incidence.Half.{Half}

abbrev pub Buckets : Type 0
Buckets = List (Vec Half Global)

-- the half-edges that wait in a bucket
abbrev pub waiting_in : Buckets → ℕ → List Half
waiting_in buckets b = slice_index_or (map (λ v. v.items) buckets) b []

-- how often a place waits in a list of half-edges
abbrev pub times_in : ℕ → List Half → ℕ
times_in q halves = count_by (λ h. h.place == q) halves

-- how often a place waits in all buckets
abbrev pub times_waiting : ℕ → Buckets → ℕ
times_waiting q buckets = sum_by (times_in q) (map (λ v. v.items) buckets)

-- how many half-edges wait in all buckets
abbrev pub count_waiting : Buckets → ℕ
count_waiting buckets = sum_by length (map (λ v. v.items) buckets)

-- whether the half-edge at a place is there, as 1 or 0
abbrev pub times_there : ℕ → List (List (Option ℕ)) → ℕ
times_there q slots = if is_some (half_at slots (q / 4) (q % 4)) then 1 else 0

-- how often the half-edge at a place is there or waits
abbrev pub times_of : ℕ → List (List (Option ℕ)) → Buckets → ℕ
times_of q slots buckets = times_waiting q buckets + times_there q slots

-- each place is there or waits as often as before
abbrev pub IsSame : List (List (Option ℕ)) → Buckets → List (List (Option ℕ)) → Buckets → Type 0
IsSame before waited after waiting = (q : ℕ) → times_of q after waiting ≡ times_of q before waited

-- a half-edge of one of the edges, which have k ends each
pub record IsEnd (k : ℕ) (edges : List (List ℕ)) (h : Half) : Type 0 where
  pub edge : h.place / 4 < length edges
  pub position : h.place % 4 < k
  pub vertex : h.vertex ≡ slice_index_or (ends_at edges (h.place / 4)) (h.place % 4) 0

-- the half-edges that are there or wait are some of these edges', each of them once
pub record AreSplit (k n : ℕ) (edges : List (List ℕ)) (l : Links) (buckets : Buckets) : Type 0 where
  pub width : k ≤ 4
  pub ended : AreEdges k n edges
  pub vertices : l.vertices ≡ n
  pub long : length l.slots ≡ length edges
  pub short : (e : ℕ) → length (halves_at l.slots e) ≤ k
  pub there : (e i v : ℕ) → half_at l.slots e i ≡ Some v → v ≡ slice_index_or (ends_at edges e) i 0
  pub wait : (b : ℕ) → All (IsEnd k edges) (waiting_in buckets b)
  pub once : (q : ℕ) → times_of q l.slots buckets ≤ 1

-- the place is there or waits once more than before, and the others as often
abbrev pub IsMore : ℕ → List (List (Option ℕ)) → Buckets → List (List (Option ℕ)) → Buckets → Type 0
IsMore place before waited after waiting = (q : ℕ) → times_of q after waiting ≡ times_of q before waited + (if place == q then 1 else 0)

-- of edges with k ends each, the half-edges with places below t are there or wait
pub record AreFirst (k t : ℕ) (slots : List (List (Option ℕ))) (buckets : Buckets) : Type 0 where
  pub past : (q : ℕ) → t ≤ q → times_of q slots buckets ≡ 0
  pub all : (q : ℕ) → q < t → q % 4 < k → times_of q slots buckets ≡ 1
