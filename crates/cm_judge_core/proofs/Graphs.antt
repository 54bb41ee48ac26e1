-- What is seen of a report by the graph of the keys.
use Rattle.std.proofs.Common.{◌≡◌, ℕ, List, [], ◌∷◌, length, map, ap, ◌∙◌, subst, sym, Option, None}
use Rattle.cm_judge_verdict.specs.CoreLaws.{core_rises, pairs_rise_after, rest_rises, rest_within}
use Rattle.cm_judge_verdict.specs.Judged.{Judged, core_in, edge_over, graph_in, pairs_in}
use Rattle.cm_judge_verdict.specs.PlaceLaws.{KeysRise, key_in, keys_rise}
use Rattle.cm_judge_verdict.specs.Rising.{RisesBy}
use Rattle.cm_judge_verdict.specs.StepLaws.{graph_verdict}
use Rattle.cm_judge_verdict.specs.Verdicts.{core_reason, edge_reason, first_reason, graph_reasons}
use Rattle.cm_judge_verdict.specs.declared.verdict.Reason.{Reason}
use Rattle.cm_spec.specs.Rounds.{rest_of}
use Rattle.cm_witness_gather.specs.declared.certificate.CoreEdge.{CoreEdge}
use Rattle.cm_witness_gather.specs.declared.certificate.Pair.{Pair}

-- the pairs of the 2-core rise
pairs_rise : (j : Judged) → KeysRise j → RisesBy (λ p. p.again) 0 (pairs_in j)
pairs_rise j rise = pairs_rise_after [] (map (key_in j) (rest_of (graph_in j))) 0 (keys_rise j rise (rest_of (graph_in j)) (rest_rises j) (rest_within j))

-- what is seen by the edges and the pairs of the 2-core
pub core_seen : (j : Judged) (seen : Option Reason) (core edges shown : List CoreEdge) (real equal pairs : List Pair) → KeysRise j → core ≡ core_in j → real ≡ pairs_in j → edges ≡ shown → equal ≡ pairs
    → (RisesBy (λ e. e.line) 0 core → RisesBy (λ p. p.again) 0 real → seen ≡ core_reason core real edges equal) → seen ≡ core_reason (core_in j) (pairs_in j) shown pairs
core_seen j seen core edges shown real equal pairs rise is are same also holds =
    holds (subst (λ (es : List CoreEdge). RisesBy (λ e. e.line) 0 es) (sym is) (core_rises j rise)) (subst (λ (ps : List Pair). RisesBy (λ p. p.again) 0 ps) (sym are) (pairs_rise j rise))
    ∙ (ap (λ (es : List CoreEdge). core_reason es real edges equal) is
    ∙ (ap (λ (ps : List Pair). core_reason (core_in j) ps edges equal) are
    ∙ (ap (λ (es : List CoreEdge). core_reason (core_in j) (pairs_in j) es equal) same
    ∙ ap (λ (ps : List Pair). core_reason (core_in j) (pairs_in j) shown ps) also)))

-- the verdict is that of what was seen without the 2-core, and then of what is seen by it
pub verdict_so_far : (j : Judged) (edges shown : List CoreEdge) (equal : List Pair) (m n : ℕ) (seen : Option Reason) → length j.keys ≡ m → n ≡ j.rule.size m j.ratio → edges ≡ shown
    → seen ≡ edge_reason j.keys (map (edge_over j.rule n j.seed) j.keys) edges → first_reason (seen ∷ core_reason (core_in j) (pairs_in j) shown equal ∷ []) ≡ first_reason (graph_reasons j shown equal)
verdict_so_far j edges shown equal m n seen many size same is =
    let over : n ≡ j.rule.size (length j.keys) j.ratio = size ∙ ap (λ (k : ℕ). j.rule.size k j.ratio) (sym many) in
    let first : seen ≡ edge_reason j.keys (map (edge_over j.rule (j.rule.size (length j.keys) j.ratio) j.seed) j.keys) shown =
    is ∙ (ap (λ (es : List CoreEdge). edge_reason j.keys (map (edge_over j.rule n j.seed) j.keys) es) same ∙ ap (λ (k : ℕ). edge_reason j.keys (map (edge_over j.rule k j.seed) j.keys) shown) over) in
    ap (λ (o : Option Reason). first_reason (o ∷ core_reason (core_in j) (pairs_in j) shown equal ∷ [])) first ∙ sym (graph_verdict j shown equal)

-- the verdict if nothing was seen without the 2-core
pub verdict_by_core : (j : Judged) (edges shown : List CoreEdge) (equal : List Pair) (m n : ℕ) (seen : Option Reason) → length j.keys ≡ m → n ≡ j.rule.size m j.ratio → edges ≡ shown
    → None ≡ edge_reason j.keys (map (edge_over j.rule n j.seed) j.keys) edges → seen ≡ core_reason (core_in j) (pairs_in j) shown equal → first_reason (seen ∷ []) ≡ first_reason (graph_reasons j shown equal)
verdict_by_core j edges shown equal m n seen many size same none is =
    ap (λ (o : Option Reason). first_reason (o ∷ [])) is ∙ verdict_so_far j edges shown equal m n None many size same none
