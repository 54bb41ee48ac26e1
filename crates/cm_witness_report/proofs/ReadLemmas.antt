-- The text of a report is read as what it says.
use Rattle.std.proofs.Common.{◌≡◌, ◌∙◌, ◌<◌, ◌≤◌, ◌+◌, ◌^◌, ℕ, suc, zero, List, [], ◌∷◌, ◌++◌, ap, sym, refl, arith, Bool, Ok, map, length}
use Rattle.cm_io.specs.Writing.{joined}
use Rattle.cm_io.specs.WritingLaws.{joined-append}
use Rattle.cm_spec.specs.declared.limits.TheConstants.{MAX_EDGES}
use Rattle.cm_witness_gather.specs.Gathers.{has_third}
use Rattle.cm_witness_gather.specs.Reports.{edge_line, head_line, overfull_head, pair_line}
use Rattle.cm_witness_gather.specs.declared.certificate.CoreEdge.{CoreEdge}
use Rattle.cm_witness_gather.specs.declared.certificate.Pair.{Pair}
use Rattle.cm_witness_report.specs.Lines.{lines_in}
use Rattle.cm_witness_report.specs.Reading.{edges_from, pairs_from, reading_of, report_from, rest_from}
use Rattle.cm_witness_report.specs.Reports.{AreEdges, ArePairs, IsReport, IsSmall, Said, core_said, overfull_said, text_of}
use Rattle.cm_witness_report.specs.declared.parts.Head.{Head}
use Rattle.cm_witness_report.specs.declared.parts.Head.TheVariants.{Core, Overfull}
use Rattle.cm_witness_report.proofs.HeadLemmas.{head_there}
use Rattle.cm_witness_report.proofs.LineLemmas.{AreLines, edges_whole, head_whole, lines_all, pairs_whole}
use Rattle.cm_witness_report.proofs.PartLemmas.{next_edge_there, next_pair_there}
use Rattle.cm_witness_report.proofs.Tests.{ok_or_some, ok_then}

-- the lines of a report
abbrev pub report_lines : Said → List (List ℕ)
report_lines (core_said algorithm place seed edges equal) = head_line algorithm place seed (length edges) ∷ (map edge_line edges ++ map pair_line equal)
report_lines (overfull_said seed bucket count equal) = overfull_head seed bucket count ∷ map pair_line equal

-- its text is their text
pub text_lines : (said : Said) → text_of said ≡ joined (report_lines said)
text_lines (core_said algorithm place seed edges equal) = ap (λ (l : List ℕ). head_line algorithm place seed (length edges) ++ l) (sym (joined-append (map edge_line edges) (map pair_line equal)))
text_lines (overfull_said seed bucket count equal) = refl

-- edges with rising lines leave room for those that come
pub edges_room : (third : Bool) (last : ℕ) (es : List CoreEdge) → IsSmall last → AreEdges third last es → last + length es < 2 ^ 32
edges_room third last [] small are = omega (arith, small)
edges_room third last (e ∷ es) small are = let rest : e.line + length es < 2 ^ 32 = edges_room third e.line es are.1.line are.2 in omega (arith, rest, are.0)

pub edges_there : (third : Bool) (last n : ℕ) (es : List CoreEdge) (lines : List (List ℕ)) → AreEdges third last es → edges_from third last n (length es) (map edge_line es ++ lines) ≡ Ok (es, lines)
unfolding edges_from
edges_there third last n [] lines are = refl
edges_there third last n (e ∷ es) lines are =
    let room : e.line + length es < 2 ^ 32 = edges_room third e.line es are.1.line are.2 in
    ok_then _ _ e _ (ok_or_some _ n e (next_edge_there third last (length es) e are.1 are.0 room))
    (ok_then _ _ (es, lines) _ (edges_there third e.line (n + 1) es lines are.2) refl)

pub pairs_there : (last n room : ℕ) (ps : List Pair) → ArePairs last ps → length ps ≤ room → pairs_from last n room (map pair_line ps) ≡ Ok ps
unfolding pairs_from
pairs_there last n room [] are few = refl
pairs_there last n zero (p ∷ ps) are few = absurd (omega (arith, few))
pairs_there last n (suc room) (p ∷ ps) are few =
    ok_then _ _ p _ (ok_or_some _ n p (next_pair_there last p are.1 are.0))
    (ok_then _ _ ps _ (pairs_there p.again (n + 1) room ps are.2 (omega (arith, few))) refl)

-- the lines of a report are read as what it says
pub lines_there : (said : Said) → IsReport said → report_from (report_lines said) ≡ Ok said
unfolding report_from rest_from
lines_there (core_said algorithm place seed edges equal) is =
    let h : Head = Core algorithm place seed (length edges) in
    ok_then _ _ h _ (ok_or_some _ 1 h (head_there h (is.place_is, is.place_small, is.seed_small, is.some, is.few)))
    (ok_then _ _ (edges, map pair_line equal) _ (edges_there (has_third algorithm) 0 2 edges (map pair_line equal) is.edges_are)
    (ok_then _ _ equal _ (pairs_there 0 (2 + length edges) MAX_EDGES equal is.pairs_are is.few_pairs) refl))
lines_there (overfull_said seed bucket count equal) is =
    let h : Head = Overfull seed bucket count in
    ok_then _ _ h _ (ok_or_some _ 1 h (head_there h (is.seed_small, is.bucket_small, is.count_small)))
    (ok_then _ _ equal _ (pairs_there 0 2 MAX_EDGES equal is.pairs_are is.few_pairs) refl)

-- they are whole
pub report_whole : (said : Said) → IsReport said → AreLines (report_lines said)
report_whole (core_said algorithm place seed edges equal) is =
    (head_whole (Core algorithm place seed (length edges)) (is.place_is, is.place_small, is.seed_small, is.some, is.few), edges_whole (has_third algorithm) 0 edges (map pair_line equal) is.edges_are (pairs_whole 0 equal is.pairs_are))
report_whole (overfull_said seed bucket count equal) is = (head_whole (Overfull seed bucket count) (is.seed_small, is.bucket_small, is.count_small), pairs_whole 0 equal is.pairs_are)

-- so they are the lines of its text
pub text_cut : (said : Said) → IsReport said → lines_in (text_of said) ≡ report_lines said
text_cut said is = ap lines_in (text_lines said) ∙ lines_all (report_lines said) (report_whole said is)

pub read_back : (said : Said) → IsReport said → reading_of (text_of said) ≡ Ok said
read_back said is = ap report_from (text_cut said is) ∙ lines_there said is
