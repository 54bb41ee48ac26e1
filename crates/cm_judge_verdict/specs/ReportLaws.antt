-- The edges and the pairs of a report rise by their lines.
use Rattle.std.proofs.Common.{ℕ, suc, Bool, List, [], ◌∷◌, arith}
use Rattle.cm_judge_verdict.specs.Rising.{RisesBy}
use Rattle.cm_witness_gather.specs.declared.certificate.CoreEdge.{CoreEdge}
use Rattle.cm_witness_gather.specs.declared.certificate.Pair.{Pair}
use Rattle.cm_witness_report.specs.Reports.{AreEdges, ArePairs}

pub shown_edges_rise : (third : Bool) (last : ℕ) (es : List CoreEdge) → AreEdges third last es → RisesBy (λ e. e.line) (suc last) es
shown_edges_rise third last [] h = tt
shown_edges_rise third last (e ∷ es) h = (omega (arith, h.0), shown_edges_rise third e.line es h.2)

pub shown_pairs_rise : (last : ℕ) (ps : List Pair) → ArePairs last ps → RisesBy (λ p. p.again) (suc last) ps
shown_pairs_rise last [] h = tt
shown_pairs_rise last (p ∷ ps) h = (omega (arith, h.0), shown_pairs_rise p.again ps h.2)
