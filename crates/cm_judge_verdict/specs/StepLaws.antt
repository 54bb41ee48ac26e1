-- How the reasons that the steps of a judge find make up its verdict.
use Rattle.std.proofs.Common.{◌≡◌, List, [], ◌∷◌, length, map, refl, ap, ◌∙◌, Option, None, Some}
use Rattle.std.specs.Option.{option_or}
use Rattle.cm_judge_verdict.specs.Judged.{Judged, core_in, edge_over, pairs_in}
use Rattle.cm_judge_verdict.specs.PlaceLaws.{edges_of_keys}
use Rattle.cm_judge_verdict.specs.Verdicts.{core_reason, edge_reason, first_reason, graph_reasons, missing, no_key, other_ends, other_pairs, touched_once}
use Rattle.cm_judge_verdict.specs.declared.verdict.Reason.{Reason}
use Rattle.cm_witness_gather.specs.declared.certificate.CoreEdge.{CoreEdge}
use Rattle.cm_witness_gather.specs.declared.certificate.Pair.{Pair}

-- the first of some reasons is the first of those before a place, or else of those after it
joined : (b c d e f : Option Reason) → first_reason (b ∷ c ∷ d ∷ e ∷ f ∷ []) ≡ first_reason (option_or b (option_or c d) ∷ option_or e f ∷ [])
joined (Some b) c d e f = refl
joined None (Some c) d e f = refl
joined None None (Some d) e f = refl
joined None None None (Some e) f = refl
joined None None None None f = refl

-- the verdict of the keys on a 2-core is that of what is seen without the 2-core, and then of what is seen by it
pub graph_verdict : (j : Judged) (edges : List CoreEdge) (equal : List Pair)
    → first_reason (graph_reasons j edges equal) ≡ first_reason (edge_reason j.keys (map (edge_over j.rule (j.rule.size (length j.keys) j.ratio) j.seed) j.keys) edges ∷ core_reason (core_in j) (pairs_in j) edges equal ∷ [])
graph_verdict j edges equal =
    joined (no_key j edges) (other_ends j edges) (touched_once edges) (missing j edges) (other_pairs (pairs_in j) equal)
    ∙ ap (λ (all : List CoreEdge). first_reason (edge_reason j.keys all edges ∷ core_reason (core_in j) (pairs_in j) edges equal ∷ [])) (edges_of_keys j)
