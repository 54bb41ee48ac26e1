-- What holds when a round would remove nothing.
use Rattle.std.proofs.Common.{◌≡◌, ◌⊎◌, ℕ, zero, suc, ◌+◌, ◌-◌, ◌*◌, ◌/◌, ◌%◌, ◌<◌, ◌≤◌, Bool, true, false, cond, leb, not, ltb, List, [], ◌++◌, length, get_or, map, sym, refl, ap, ◌∙◌, inl, inr, arith, append-nil}
use Rattle.std.specs.List.{filter}
use Rattle.std.proofs.lemmas.Bool.{cases_Bool, cases_lt, cond-true, cond-false, le-leb, le-ltb, lt-leb, lt-ltb}
use Rattle.std.proofs.Math.Nat.{mul-le-mul_left}
use Rattle.std.proofs.lemmas.List.{get_or-map, length-map}
use Rattle.std.proofs.lemmas.Grind.{same_number_lists, get_or_default_zero}
use Rattle.cm_spec.specs.Lists.{numbers_from, has}
use Rattle.cm_spec.specs.Graph.{AreEdges, places}
use Rattle.cm_spec.specs.Rounds.{is_left, left_after, removed_after, rest_of, level_of, pivot_of, order_upto, order_of}
use Rattle.cm_graph_edges.specs.Graph.{Graph, Links}
use Rattle.cm_peel.specs.AtRound.{AtRound, byte_of}
use Rattle.cm_peel.specs.Peeling.{IsPeelingOf, levels_of, is_taken, parities_in, pivots_in, untaken_of}
use Rattle.cm_peel.proofs.Unlinking.{pivot_small}
use Rattle.cm_peel.specs.SetLaws.{filter_agree_on}
use Rattle.cm_peel.specs.CoreLaws.{left_after_is, IsStable, stable_stays, stable_next}
use Rattle.cm_peel.specs.RoundLaws.{has_left_from, place_below, stable_at, removed_same, length-order}

-- d rounds later nothing has changed
pub stable_later : (edges : List (List ℕ)) (t d : ℕ) → IsStable edges t → (left_after edges (d + t) ≡ left_after edges t) × IsStable edges (d + t)
stable_later edges t zero s = let z : 0 + t ≡ t = omega arith in (ap (left_after edges) z, rw z s)
stable_later edges t (suc d) s =
    let ih = stable_later edges t d s in
    let z : suc d + t ≡ suc (d + t) = omega arith in
    (ap (left_after edges) z ∙ (stable_stays edges (d + t) ih.1 ∙ ih.0), rw z (stable_next edges (d + t) ih.1))

pub order_later : (edges : List (List ℕ)) (t d : ℕ) → removed_after edges t ≡ [] → order_upto edges (d + t) ≡ order_upto edges t
order_later edges t zero none = let z : 0 + t ≡ t = omega arith in ap (order_upto edges) z
order_later edges t (suc d) none =
    let z : suc d + t ≡ suc (d + t) = omega arith in
    let same : removed_after edges (d + t) ≡ [] = removed_same edges t (d + t) (stable_later edges t d (stable_at edges t none)).0 ∙ none in
    ap (order_upto edges) z ∙ (ap (λ (xs : List ℕ). order_upto edges (d + t) ++ xs) same ∙ (append-nil _ ∙ order_later edges t d none))

pub rest_is : (edges : List (List ℕ)) (t : ℕ) → t ≤ length edges → removed_after edges t ≡ [] → rest_of edges ≡ left_after edges t
rest_is edges t few none =
    let z : length edges ≡ length edges - t + t = omega arith in
    ap (left_after edges) z ∙ (stable_later edges t (length edges - t) (stable_at edges t none)).0

pub order_is : (edges : List (List ℕ)) (t : ℕ) → t ≤ length edges → removed_after edges t ≡ [] → order_of edges ≡ order_upto edges t
order_is edges t few none =
    let z : length edges ≡ length edges - t + t = omega arith in
    ap (order_upto edges) z ∙ order_later edges t (length edges - t) none

-- the level of what is left is 0, and that of what is not is above
pub level_zero : (edges : List (List ℕ)) (e : ℕ) → has (rest_of edges) e ≡ true → level_of edges e ≡ 0
level_zero edges e m = cond-true _ _ _ m

pub map_numbers : (f : ℕ → ℕ) (b n k : ℕ) → k < n → get_or (map f (numbers_from b n)) k 0 ≡ f (b + k)
map_numbers f b zero k h = absurd (omega arith)
map_numbers f b (suc n) zero h = let z : b ≡ b + 0 = omega arith in ap f z
map_numbers f b (suc n) (suc k) h = map_numbers f (suc b) n k (omega arith) ∙ (let z : suc b + k ≡ b + suc k = omega arith in ap f z)

pub length-map_numbers : (f : ℕ → ℕ) (b n : ℕ) → length (map f (numbers_from b n)) ≡ n
length-map_numbers f b zero = refl
length-map_numbers f b (suc n) = ap suc (length-map_numbers f (suc b) n)

-- what is left then is the residual graph
pub rest_now : (edges : List (List ℕ)) (t : ℕ) → t ≤ length edges → removed_after edges t ≡ [] → rest_of edges ≡ left_after edges (suc t)
rest_now edges t few none = rest_is edges t few none ∙ sym (stable_stays edges t (stable_at edges t none))

-- the edges that are not taken are those that are left, and the order has the others
abbrev pub is_untaken : List ℕ → ℕ → Bool
is_untaken bytes e = not (is_taken bytes e)

untaken_are : (graph : Graph) (t : ℕ) (l : Links) (levels bytes : List ℕ) → AtRound graph t l levels bytes → untaken_of bytes ≡ left_after graph.edges (suc t)
untaken_are graph t l levels bytes a = ap (λ m. filter (is_untaken bytes) (numbers_from 0 m)) a.round.bytes_long ∙ (filter_agree_on (is_untaken bytes) (is_left graph.edges (suc t)) (places graph.edges)
    (λ e m. ap not (a.round.taken e (place_below graph.edges e m)) ∙ not-not (is_left graph.edges (suc t) e)) ∙ sym (left_after_is graph.edges (suc t))) where
      not-not : (b : Bool) → not (not b) ≡ b
      not-not true = refl
      not-not false = refl

pub untaken_many : (graph : Graph) (t : ℕ) (l : Links) (levels bytes : List ℕ) → AtRound graph t l levels bytes → length (order_upto graph.edges (suc t)) + length (untaken_of bytes) ≡ length graph.edges
untaken_many graph t l levels bytes a = omega (arith, length-order graph.edges (suc t), ap length (untaken_are graph t l levels bytes a))

pub ended : (k : ℕ) (graph : Graph) (t : ℕ) (l : Links) (order levels bytes rest : List ℕ) → k ≤ 3 → AreEdges k graph.vertices graph.edges → AtRound graph t l levels bytes → t ≤ length graph.edges → removed_after graph.edges t ≡ [] → order ≡ order_upto graph.edges (suc t) → rest ≡ untaken_of bytes
    → IsPeelingOf graph.edges (record { order = order; levels = levels; pivots = pivots_in bytes; parities = parities_in bytes; rest = rest })
ended k graph t l order levels bytes rest small are a few none order_are rest_are = record {
  order = order_are ∙ (ap (λ (xs : List ℕ). order_upto edges t ++ xs) none ∙ (append-nil _ ∙ sym (order_is edges t few none)));
  pivot = λ e h above. pivot e h (a.round.byte e h (gone e h above (cases_Bool (is_left edges (suc t) e))));
  pivots_long = length-map bytes (λ b. b % 4) ∙ a.round.bytes_long;
  parity = λ e h above. parity e h (a.round.byte e h (gone e h above (cases_Bool (is_left edges (suc t) e))));
  parities_long = length-map bytes (λ b. b / 4 % 2) ∙ a.round.bytes_long;
  rest = rest_are ∙ (untaken_are graph t l levels bytes a ∙ sym (rest_now edges t few none));
} where
  edges : List (List ℕ)
  edges = graph.edges

  pivot : (e : ℕ) → e < length graph.edges → get_or bytes e 0 ≡ byte_of graph.edges e → get_or (map (λ b. b % 4) bytes) e 0 ≡ pivot_of graph.edges e
  pivot e h is =
      let tag : ℕ = (level_of edges e - 1) % 2 in
      let small_pivot : pivot_of edges e ≤ 3 = pivot_small k graph e small are h in
      let whole : get_or bytes e 0 ≡ 4 * tag + pivot_of edges e = is in
      get_or-map (λ b. b % 4) bytes e 0 0 (omega (arith, a.round.bytes_long)) ∙ omega (arith, whole, small_pivot)

  parity : (e : ℕ) → e < length graph.edges → get_or bytes e 0 ≡ byte_of graph.edges e → get_or (map (λ b. b / 4 % 2) bytes) e 0 ≡ (level_of graph.edges e - 1) % 2
  parity e h is =
      let tag : ℕ = (level_of edges e - 1) % 2 in
      let small_pivot : pivot_of edges e ≤ 3 = pivot_small k graph e small are h in
      let whole : get_or bytes e 0 ≡ 4 * tag + pivot_of edges e = is in
      get_or-map (λ b. b / 4 % 2) bytes e 0 0 (omega (arith, a.round.bytes_long)) ∙ omega (arith, whole, small_pivot)

  gone : (e : ℕ) → e < length graph.edges → 0 < level_of graph.edges e → (is_left graph.edges (suc t) e ≡ true) ⊎ (is_left graph.edges (suc t) e ≡ false) → is_left graph.edges (suc t) e ≡ false
  gone e h above (inl here) =
      let z : level_of graph.edges e ≡ 0 = level_zero edges e (ap (λ (xs : List ℕ). has xs e) (rest_now graph.edges t few none) ∙ has_left_from edges (suc t) e h here) in
      absurd (omega arith)
  gone e h above (inr out) = out

-- the levels that are noted then
pub levels_ended : (graph : Graph) (t : ℕ) (l : Links) (levels bytes : List ℕ) → AtRound graph t l levels bytes → t ≤ length graph.edges → removed_after graph.edges t ≡ [] → (e : ℕ) → e < length levels → get_or levels e 0 ≡ level_of graph.edges e
levels_ended graph t l levels bytes a few none e h = a.level e h ∙ go (cases_Bool (is_left graph.edges (suc t) e)) where
  place : e < length graph.edges
  place = omega (arith, a.levels_kept (omega arith))

  go : (is_left graph.edges (suc t) e ≡ true) ⊎ (is_left graph.edges (suc t) e ≡ false) → cond (is_left graph.edges (suc t) e) 0 (level_of graph.edges e) ≡ level_of graph.edges e
  go (inl here) = cond-true _ 0 (level_of graph.edges e) here ∙ sym (level_zero graph.edges e (ap (λ (xs : List ℕ). has xs e) (rest_now graph.edges t few none) ∙ has_left_from graph.edges (suc t) e place here))
  go (inr out) = cond-false _ 0 (level_of graph.edges e) out

-- a table of all levels
pub all_levels : (edges : List (List ℕ)) (levels : List ℕ) → length levels ≡ length edges → ((e : ℕ) → e < length levels → get_or levels e 0 ≡ level_of edges e) → levels ≡ levels_of edges
all_levels edges levels long each = same_number_lists levels (map (level_of edges) (places edges)) (long ∙ sym (length-map_numbers (level_of edges) 0 (length edges)))
    (λ k h. each k h ∙ sym (map_numbers (level_of edges) 0 (length edges) k (omega (arith, long)) ∙ ap (level_of edges) (omega arith)))

-- the steps of the whole
pub steps_next : (k s₀ s s' m start at : ℕ) → s ≤ s₀ + 4 * (k * m) + 3 * (k * start) → s' ≤ s + 3 * (k * (at - start)) → start ≤ at → s' ≤ s₀ + 4 * (k * m) + 3 * (k * at)
steps_next k s₀ s s' m start at a b h =
    let d : ℕ = at - start in
    let e : at ≡ start + d = omega arith in
    let p : k * at ≡ k * (start + d) = ap (λ x. k * x) e in
    omega arith

pub steps_end : (k s₀ s m at : ℕ) → s ≤ s₀ + 4 * (k * m) + 3 * (k * at) → at ≤ m → s ≤ s₀ + 8 * (k * m)
steps_end k s₀ s m at a few = omega (arith, mul-le-mul_left k few)

-- whether the byte of an edge says that it isn't taken
untaken_here : (bytes : List ℕ) (e x : ℕ) → e < length bytes → x ≡ get_or bytes e x → 8 ≤ x → is_untaken bytes e ≡ true
untaken_here bytes e x h read far = ap not (ap (λ y. ltb y 8) (sym (read ∙ get_or_default_zero bytes e x h)) ∙ le-ltb x 8 far)

taken_here : (bytes : List ℕ) (e x : ℕ) → e < length bytes → x ≡ get_or bytes e x → x < 8 → is_untaken bytes e ≡ false
taken_here bytes e x h read low = ap not (ap (λ y. ltb y 8) (sym (read ∙ get_or_default_zero bytes e x h)) ∙ lt-ltb x 8 low)

pub untaken_byte : (bytes : List ℕ) (e x : ℕ) → e < length bytes → x ≡ get_or bytes e x → leb 8 x ≡ is_untaken bytes e
untaken_byte bytes e x h read = elim (cases_lt x 8) [
  | inl low ↦ lt-leb 8 x low ∙ sym (taken_here bytes e x h read low)
  | inr far ↦ le-leb 8 x far ∙ sym (untaken_here bytes e x h read far)
]
