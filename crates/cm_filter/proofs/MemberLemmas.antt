-- Cells that solve the graph of keys add up to the keys' fingerprints.
use Rattle.std.proofs.Common.{◌≡◌, ◌∙◌, ℕ, ◌%◌, ◌<◌, ◌^◌, List, [], length, map, refl, sym, ap, subst, arith}
use Rattle.std.specs.Prelude.{slice_index}
use Rattle.std.specs.List.{sum_by}
use Rattle.std.proofs.lemmas.Bool.{eq-eqb}
use Rattle.std.proofs.lemmas.List.{length-map, get_or-map}
use Rattle.cm_algo_scheme.specs.Solvable.{CellsSolve}
use Rattle.cm_filter.specs.FilterLaws.{filter_is_rule}
use Rattle.cm_filter.specs.Filters.{filter_rule, filter_under, fingerprint}
use Rattle.cm_filter.specs.Members.{AllHold}
use Rattle.cm_spec.specs.Bdz.{bdz_edge, bdz_size}
use Rattle.cm_spec.specs.Built.{cells_under, edge_of, graph_of, key_at, tag_of}
use Rattle.cm_spec.specs.Cells.{AreSolved, plan_of}
use Rattle.cm_spec.specs.Graph.{AreEdges, IsEdge, ends_at}
use Rattle.cm_spec.specs.Lookup2.{words}
use Rattle.cm_spec.specs.Rounds.{rest_of}
use Rattle.cm_spec.specs.Rule.{IsCount, IsRatio, IsSize}

pub keys_hold : CellsSolve → (keys : List (ℕ × List ℕ)) (c w seed : ℕ) → IsCount (length keys) → IsRatio c → rest_of (graph_of (filter_rule w) keys c seed) ≡ [] → AllHold (filter_under keys c w seed) keys
keys_hold solve keys c w seed many ratio none i within =
    let r = filter_rule w in
    let n = bdz_size (length keys) c in
    let edges = graph_of r keys c seed in
    let tags = map (tag_of r seed) keys in
    let cells = cells_under r keys c seed in
    let hashed = words (key_at keys i) seed in
    let size : IsSize r n = record { keys = length keys; ratio = c; many = many; within = ratio; is = refl } in
    let long : length edges ≡ length keys = length-map keys (edge_of r n seed) in
    let are : AreEdges 3 n edges = λ j d inside.
    let here : j < length keys = omega (arith, inside, long) in
    subst (λ (ends : List ℕ). (length ends ≡ 3) × IsEdge n ends) (sym (get_or-map (edge_of r n seed) keys j (0, []) d here)) ((filter_is_rule w).ends (words (key_at keys j) seed) n size) in
    let solved : AreSolved (plan_of r n edges tags) cells = solve 3 r n edges tags (filter_is_rule w) (subst IsCount (sym long) many) are none in
    let ends : ends_at edges i ≡ bdz_edge hashed n = get_or-map (edge_of r n seed) keys i (0, []) [] within in
    let tag : slice_index tags i ≡ fingerprint w hashed = get_or-map (tag_of r seed) keys i (0, []) 0 within in
    let sum : sum_by (slice_index cells) (ends_at edges i) % 2 ^ w ≡ slice_index tags i % 2 ^ w = solved.sums i (omega (arith, within, long)) in
    let same : bdz_edge hashed (length cells) ≡ ends_at edges i = ap (bdz_edge hashed) solved.long ∙ sym ends in
    eq-eqb _ _ (ap (λ (e : List ℕ). sum_by (slice_index cells) e % 2 ^ w) same ∙ sum ∙ ap (λ (t : ℕ). t % 2 ^ w) tag)
