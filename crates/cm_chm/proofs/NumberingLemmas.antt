-- Cells that solve the graph of keys add up to the keys' numbers.
use Rattle.std.proofs.Common.{◌≡◌, ◌∙◌, ℕ, ◌%◌, ◌<◌, List, [], length, map, get_or, refl, sym, ap, subst, arith}
use Rattle.std.specs.List.{sum_by}
use Rattle.std.proofs.lemmas.List.{length-map, get_or-map}
use Rattle.cm_algo_scheme.specs.Solvable.{CellsSolve}
use Rattle.cm_chm.specs.ChmLaws.{chm_is_rule}
use Rattle.cm_chm.specs.Numbering.{AnswersNumbers}
use Rattle.cm_spec.specs.Built.{edge_of, tag_of, graph_of, cells_under, chm_under, key_at}
use Rattle.cm_spec.specs.Cells.{AreSolved, plan_of}
use Rattle.cm_spec.specs.Chm.{chm_rule, chm_size}
use Rattle.cm_spec.specs.Graph.{AreEdges, IsEdge, ends_at}
use Rattle.cm_spec.specs.Lookup2.{words}
use Rattle.cm_spec.specs.Rounds.{rest_of}
use Rattle.cm_spec.specs.Rule.{IsCount, IsRatio, IsSize}

-- the ends of each key are an edge
edges_of_keys : (keys : List (ℕ × List ℕ)) (n seed : ℕ) → IsSize chm_rule n → AreEdges 2 n (map (edge_of chm_rule n seed) keys)
edges_of_keys keys n seed size i d within =
    let here : i < length keys = omega (arith, length-map keys (edge_of chm_rule n seed)) in
    subst (λ (ends : List ℕ). (length ends ≡ 2) × IsEdge n ends) (sym (get_or-map (edge_of chm_rule n seed) keys i (0, []) d here)) (chm_is_rule.ends (words (key_at keys i) seed) n size)

pub answers_numbers : CellsSolve → (keys : List (ℕ × List ℕ)) (c seed : ℕ) → IsCount (length keys) → IsRatio c → rest_of (graph_of chm_rule keys c seed) ≡ [] → AnswersNumbers keys (chm_under keys c seed)
answers_numbers solve keys c seed many ratio none i within =
    let n = chm_size (length keys) c in
    let edges = graph_of chm_rule keys c seed in
    let tags = map (tag_of chm_rule seed) keys in
    let cells = cells_under chm_rule keys c seed in
    let size : IsSize chm_rule n = record { keys = length keys; ratio = c; many = many; within = ratio; is = refl } in
    let long : length edges ≡ length keys = length-map keys (edge_of chm_rule n seed) in
    let solved : AreSolved (plan_of chm_rule n edges tags) cells = solve 2 chm_rule n edges tags chm_is_rule (subst IsCount (sym long) many) (edges_of_keys keys n seed size) none in
    let ends : ends_at edges i ≡ edge_of chm_rule n seed (get_or keys i (0, [])) = get_or-map (edge_of chm_rule n seed) keys i (0, []) [] within in
    let sum : sum_by (λ v. get_or cells v 0) (ends_at edges i) % length edges ≡ i = solved.sums i (omega (arith, long)) in
    ap (λ (m : ℕ). sum_by (λ v. get_or cells v 0) (edge_of chm_rule n seed (get_or keys i (0, []))) % m) (sym long)
    ∙ (ap (λ (e : List ℕ). sum_by (λ v. get_or cells v 0) e % length edges) (sym ends) ∙ sum)
