-- Cells that solve the graph of keys choose the vertex at the pivot of each key's edge.
use Rattle.std.proofs.Common.{◌≡◌, ◌≢◌, ◌∙◌, ℕ, ◌%◌, ◌<◌, List, [], length, map, Option, None, Some, cond, Bool, refl, sym, ap, subst, arith}
use Rattle.std.specs.Prelude.{slice_index}
use Rattle.std.specs.List.{count_by, sum_by}
use Rattle.std.proofs.lemmas.Bool.{ne_eqb}
use Rattle.std.proofs.lemmas.List.{length-map, get_or-map}
use Rattle.cm_bdz.specs.RankingLaws.{rank_apart, rank_below}
use Rattle.cm_bdz.specs.BdzLaws.{bdz_is_rule, bdz_ph_is_rule}
use Rattle.cm_bdz.specs.Functions.{bdz_answer, bdz_ph_answer, chosen_end, chosen_of, ranked}
use Rattle.cm_bdz.specs.Numbering.{AnswersApart, bdz_ph_under, bdz_under}
use Rattle.cm_rank.specs.Ranks.{rank_of}
use Rattle.cm_algo_scheme.specs.Solvable.{CellsSolve}
use Rattle.cm_spec.specs.Bdz.{bdz_edge, bdz_ph_rule, bdz_rule}
use Rattle.cm_spec.specs.Built.{cells_under, edge_of, graph_of, tag_of, key_at}
use Rattle.cm_spec.specs.Cells.{AreSolved, is_busy, pivot_vertex, plan_of}
use Rattle.cm_spec.specs.Graph.{AreEdges, IsEdge, ends_at}
use Rattle.cm_spec.specs.Lookup2.{words}
use Rattle.cm_spec.specs.Rounds.{pivot_of, rest_of}
use Rattle.cm_spec.specs.Rule.{IsCount, IsRatio, IsRule, IsSize, Rule}

-- a rule by which the cells of a key's ends add up to its pivot's position, modulo 3
record Chooses (r : Rule) : Type 0 where
  laws : IsRule 3 r
  edge : (w : List ℕ) (n : ℕ) → r.edge w n ≡ bdz_edge w n
  three : (m : ℕ) → r.modulus m ≡ 3
  target : (i p t : ℕ) → r.target i p t ≡ p

bdz_chooses : Chooses bdz_rule
bdz_chooses = record { laws = bdz_is_rule; edge = λ w n. refl; three = λ m. refl; target = λ i p t. refl }

bdz_ph_chooses : Chooses bdz_ph_rule
bdz_ph_chooses = record { laws = bdz_ph_is_rule; edge = λ w n. refl; three = λ m. refl; target = λ i p t. refl }

-- what is known of the cells of keys under a seed whose graph has an empty 2-core
record Known (r : Rule) (keys : List (ℕ × List ℕ)) (c seed : ℕ) : Type 0 where
  long : length (graph_of r keys c seed) ≡ length keys
  solved : AreSolved (plan_of r (r.size (length keys) c) (graph_of r keys c seed) (map (tag_of r seed) keys)) (cells_under r keys c seed)

known : CellsSolve → (r : Rule) (keys : List (ℕ × List ℕ)) (c seed : ℕ) → IsRule 3 r → IsCount (length keys) → IsRatio c → rest_of (graph_of r keys c seed) ≡ [] → Known r keys c seed
known solve r keys c seed laws many ratio none =
    let n = r.size (length keys) c in
    let edges = graph_of r keys c seed in
    let size : IsSize r n = record { keys = length keys; ratio = c; many = many; within = ratio; is = refl } in
    let long : length edges ≡ length keys = length-map keys (edge_of r n seed) in
    let are : AreEdges 3 n edges = λ i d within.
    let here : i < length keys = omega (arith, within, long) in
    subst (λ (ends : List ℕ). (length ends ≡ 3) × IsEdge n ends) (sym (get_or-map (edge_of r n seed) keys i (0, []) d here)) (laws.ends (words (key_at keys i) seed) n size) in
    record { long = long; solved = solve 3 r n edges (map (tag_of r seed) keys) laws (subst IsCount (sym long) many) are none }

-- the vertex that the cells choose for a key is the one at its edge's pivot
chosen_is : (r : Rule) (keys : List (ℕ × List ℕ)) (c seed i : ℕ) → Chooses r → Known r keys c seed → i < length keys → chosen_of (cells_under r keys c seed) (key_at keys i) seed ≡ pivot_vertex (graph_of r keys c seed) i
chosen_is r keys c seed i rule k within =
    let n = r.size (length keys) c in
    let edges = graph_of r keys c seed in
    let cells = cells_under r keys c seed in
    let w = words (key_at keys i) seed in
    let ends : ends_at edges i ≡ r.edge w n = get_or-map (edge_of r n seed) keys i (0, []) [] within in
    let same : bdz_edge w (length cells) ≡ ends_at edges i = ap (bdz_edge w) k.solved.long ∙ (sym (rule.edge w n) ∙ sym ends) in
    let sum : sum_by (slice_index cells) (ends_at edges i) % 3 ≡ pivot_of edges i = ap (λ (m : ℕ). sum_by (slice_index cells) (ends_at edges i) % m) (sym (rule.three (length edges))) ∙ (k.solved.sums i (omega (arith, within, k.long)) ∙ rule.target i (pivot_of edges i) _) in
    ap (chosen_end cells) same ∙ ap (slice_index (ends_at edges i)) sum

-- it is one of the vertices
pivot_inside : (r : Rule) (keys : List (ℕ × List ℕ)) (c seed i : ℕ) → Known r keys c seed → i < length keys → pivot_vertex (graph_of r keys c seed) i < length (cells_under r keys c seed)
pivot_inside r keys c seed i k within =
    let inside : i < length (graph_of r keys c seed) = omega (arith, within, k.long) in
    omega (arith, k.solved.within i inside, k.solved.long)

-- no two keys have the same
chosen_apart : (r : Rule) (keys : List (ℕ × List ℕ)) (c seed i j : ℕ) → Chooses r → Known r keys c seed → i < length keys → j < length keys → chosen_of (cells_under r keys c seed) (key_at keys i) seed ≡ chosen_of (cells_under r keys c seed) (key_at keys j) seed → i ≡ j
chosen_apart r keys c seed i j rule k within within' same =
    k.solved.apart i j (omega (arith, within, k.long)) (omega (arith, within', k.long)) (sym (chosen_is r keys c seed i rule k within) ∙ (same ∙ chosen_is r keys c seed j rule k within'))

pub bdz_ph_apart : CellsSolve → (keys : List (ℕ × List ℕ)) (c seed : ℕ) → IsCount (length keys) → IsRatio c → rest_of (graph_of bdz_ph_rule keys c seed) ≡ [] → AnswersApart keys (λ key. Some (bdz_ph_answer (bdz_ph_under keys c seed) key)) (length (cells_under bdz_ph_rule keys c seed))
bdz_ph_apart solve keys c seed many ratio none =
    let k = known solve bdz_ph_rule keys c seed bdz_ph_is_rule many ratio none in
    let some_same : (a b : ℕ) → Some a ≡ Some b → a ≡ b = λ a b e. cc in
    record {
      below = λ i within. (chosen_of (cells_under bdz_ph_rule keys c seed) (key_at keys i) seed, refl, rw (chosen_is bdz_ph_rule keys c seed i bdz_ph_chooses k within) (pivot_inside bdz_ph_rule keys c seed i k within));
      apart = λ i j within within' same. chosen_apart bdz_ph_rule keys c seed i j bdz_ph_chooses k within within' (some_same _ _ same);
    }

-- the cell that is chosen for a key is not 3
busy_at : (keys : List (ℕ × List ℕ)) (c seed i : ℕ) → Known bdz_rule keys c seed → i < length keys → slice_index (cells_under bdz_rule keys c seed) (pivot_vertex (graph_of bdz_rule keys c seed) i) ≢ 3
busy_at keys c seed i k within same = omega (arith, k.solved.below i (omega (arith, within, k.long)), same)

ranked_busy : (cells : List ℕ) (v : ℕ) → slice_index cells v ≢ 3 → ranked cells v ≡ Some (rank_of 3 cells v)
ranked_busy cells v busy = ap (λ (b : Bool). cond {A = Option ℕ} b None (Some (rank_of 3 cells v))) (ne_eqb (slice_index cells v) 3 busy)

answer_is : (keys : List (ℕ × List ℕ)) (c seed shift i : ℕ) → Known bdz_rule keys c seed → i < length keys → bdz_answer (bdz_under keys c seed shift) (key_at keys i) ≡ Some (rank_of 3 (cells_under bdz_rule keys c seed) (pivot_vertex (graph_of bdz_rule keys c seed) i))
answer_is keys c seed shift i k within =
    let cells = cells_under bdz_rule keys c seed in
    ap (ranked cells) (chosen_is bdz_rule keys c seed i bdz_chooses k within) ∙ ranked_busy cells _ (busy_at keys c seed i k within)

pub bdz_apart : CellsSolve → (keys : List (ℕ × List ℕ)) (c seed shift : ℕ) → IsCount (length keys) → IsRatio c → rest_of (graph_of bdz_rule keys c seed) ≡ [] → AnswersApart keys (bdz_answer (bdz_under keys c seed shift)) (length keys)
bdz_apart solve keys c seed shift many ratio none =
    let k = known solve bdz_rule keys c seed bdz_is_rule many ratio none in
    let cells = cells_under bdz_rule keys c seed in
    let edges = graph_of bdz_rule keys c seed in
    let busy : count_by (is_busy 3) cells ≡ length keys = k.solved.busy (omega arith) ∙ k.long in
    let some_same : (a b : ℕ) → Some a ≡ Some b → a ≡ b = λ a b e. cc in
    record {
      below = λ i within. (rank_of 3 cells (pivot_vertex edges i), answer_is keys c seed shift i k within, rank_below cells (pivot_vertex edges i) (length keys) (pivot_inside bdz_rule keys c seed i k within) (busy_at keys c seed i k within) busy);
      apart = λ i j within within' same.
          let ranks = some_same _ _ (sym (answer_is keys c seed shift i k within) ∙ (same ∙ answer_is keys c seed shift j k within')) in
          k.solved.apart i j (omega (arith, within, k.long)) (omega (arith, within', k.long)) (rank_apart cells _ _ (pivot_inside bdz_rule keys c seed i k within) (busy_at keys c seed i k within) (pivot_inside bdz_rule keys c seed j k within') (busy_at keys c seed j k within') ranks);
    }
