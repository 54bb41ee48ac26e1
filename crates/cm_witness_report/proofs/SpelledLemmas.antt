-- What is read as a report is the text of one.
use Rattle.std.proofs.Common.{◌≡◌, ◌∙◌, ◌≤◌, ◌+◌, ℕ, suc, zero, List, [], ◌∷◌, ◌++◌, ap, sym, subst, refl, arith, Bool, Ok, map, length}
use Rattle.cm_io.specs.Writing.{joined}
use Rattle.cm_spec.specs.declared.limits.TheConstants.{MAX_EDGES}
use Rattle.cm_witness_gather.specs.Gathers.{has_third}
use Rattle.cm_witness_gather.specs.Reports.{edge_line, head_line, overfull_head, pair_line}
use Rattle.cm_witness_gather.specs.declared.certificate.CoreEdge.{CoreEdge}
use Rattle.cm_witness_gather.specs.declared.certificate.Pair.{Pair}
use Rattle.cm_witness_report.specs.Lines.{lines_in}
use Rattle.cm_witness_report.specs.Reading.{edges_from, pairs_from, reading_of, report_from, rest_from}
use Rattle.cm_witness_report.specs.Reports.{AreEdges, ArePairs, IsHead, IsReport, IsTextOf, Said, core_said, head_text, overfull_said}
use Rattle.cm_witness_report.specs.declared.parts.Head.{Head}
use Rattle.cm_witness_report.specs.declared.parts.Head.TheVariants.{Core, Overfull}
use Rattle.cm_witness_report.proofs.HeadLemmas.{head_sound}
use Rattle.cm_witness_report.proofs.LineLemmas.{lines_joined}
use Rattle.cm_witness_report.proofs.PartLemmas.{next_edge_sound, next_pair_sound}
use Rattle.cm_witness_report.proofs.ReadLemmas.{report_lines, text_lines}
use Rattle.cm_witness_report.proofs.Tests.{err_ok, ok_same, ok_step, or_ok}

-- edges that were read, and the lines after theirs
pub record AreRead (third : Bool) (last left : ℕ) (lines : List (List ℕ)) (x : List CoreEdge × List (List ℕ)) : Type 0 where
  pub edges : AreEdges third last x.0
  pub many : length x.0 ≡ left
  pub lines_are : lines ≡ map edge_line x.0 ++ x.1

pub edges_sound : (third : Bool) (last n left : ℕ) (lines : List (List ℕ)) (x : List CoreEdge × List (List ℕ)) → edges_from third last n left lines ≡ Ok x → AreRead third last left lines x
unfolding edges_from
edges_sound third last n zero lines x is = subst (AreRead third last 0 lines) (let e : ([], lines) ≡ x = ok_same is in e) (record { edges = tt; many = refl; lines_are = refl })
edges_sound third last n (suc left) [] x is = absurd (err_ok x n is)
edges_sound third last n (suc left) (l ∷ lines) x is =
    let a = ok_step _ _ x is in
    let b = ok_step _ _ x a.next in
    let next = next_edge_sound third last left l a.value (or_ok _ n a.value a.was) in
    let more = edges_sound third a.value.line (n + 1) left lines b.value b.was in
    subst (AreRead third last (suc left) (l ∷ lines)) (let e : (a.value ∷ b.value.0, b.value.1) ≡ x = ok_same b.next in e) (record {
      edges = (next.rises, next.edge, more.edges);
      many = omega (arith, more.many);
      lines_are = ap (λ (t : List ℕ). t ∷ lines) next.text_is ∙ ap (λ (ls : List (List ℕ)). edge_line a.value ∷ ls) more.lines_are;
    })

-- pairs that were read
pub record ArePairsRead (last room : ℕ) (lines : List (List ℕ)) (ps : List Pair) : Type 0 where
  pub pairs : ArePairs last ps
  pub few : length ps ≤ room
  pub lines_are : lines ≡ map pair_line ps

pub pairs_sound : (last n room : ℕ) (lines : List (List ℕ)) (ps : List Pair) → pairs_from last n room lines ≡ Ok ps → ArePairsRead last room lines ps
unfolding pairs_from
pairs_sound last n room [] ps is = subst (ArePairsRead last room []) (let e : [] ≡ ps = ok_same is in e) (record { pairs = tt; few = omega arith; lines_are = refl })
pairs_sound last n zero (l ∷ lines) ps is = absurd (err_ok ps n is)
pairs_sound last n (suc room) (l ∷ lines) ps is =
    let a = ok_step _ _ ps is in
    let b = ok_step _ _ ps a.next in
    let next = next_pair_sound last l a.value (or_ok _ n a.value a.was) in
    let more = pairs_sound a.value.again (n + 1) room lines b.value b.was in
    subst (ArePairsRead last (suc room) (l ∷ lines)) (let e : a.value ∷ b.value ≡ ps = ok_same b.next in e) (record {
      pairs = (next.rises, next.pair, more.pairs);
      few = omega (arith, more.few);
      lines_are = ap (λ (t : List ℕ). t ∷ lines) next.text_is ∙ ap (λ (ls : List (List ℕ)). pair_line a.value ∷ ls) more.lines_are;
    })

-- lines that say something as a report
pub record AreLinesOf (lines : List (List ℕ)) (said : Said) : Type 0 where
  pub valid : IsReport said
  pub are : lines ≡ report_lines said

rest_sound : (h : Head) (l : List ℕ) (lines : List (List ℕ)) (said : Said) → IsHead h → l ≡ head_text h → rest_from h lines ≡ Ok said → AreLinesOf (l ∷ lines) said
unfolding rest_from
rest_sound (Core algorithm place seed count) l lines said head text is =
    let a = ok_step _ _ said is in
    let b = ok_step _ _ said a.next in
    let edges = edges_sound (has_third algorithm) 0 2 count lines a.value a.was in
    let pairs = pairs_sound 0 (2 + count) MAX_EDGES a.value.1 b.value b.was in
    let many : count ≡ length a.value.0 = sym edges.many in
    subst (AreLinesOf (l ∷ lines)) (let e : core_said algorithm place seed a.value.0 b.value ≡ said = ok_same b.next in e) (record {
      valid = record {
        place_is = head.0;
        place_small = head.1;
        seed_small = head.2;
        some = omega (arith, head.3, many);
        few = omega (arith, head.4, many);
        edges_are = edges.edges;
        few_pairs = pairs.few;
        pairs_are = pairs.pairs;
      };
      are = ap (λ (t : List ℕ). t ∷ lines) (text ∙ ap (λ (n : ℕ). head_line algorithm place seed n) many)
          ∙ ap (λ (ls : List (List ℕ)). head_line algorithm place seed (length a.value.0) ∷ ls) (edges.lines_are ∙ ap (λ (ls : List (List ℕ)). map edge_line a.value.0 ++ ls) pairs.lines_are);
    })
rest_sound (Overfull seed bucket count) l lines said head text is =
    let a = ok_step _ _ said is in
    let pairs = pairs_sound 0 2 MAX_EDGES lines a.value a.was in
    subst (AreLinesOf (l ∷ lines)) (let e : overfull_said seed bucket count a.value ≡ said = ok_same a.next in e) (record {
      valid = record { seed_small = head.0; bucket_small = head.1; count_small = head.2; few_pairs = pairs.few; pairs_are = pairs.pairs };
      are = ap (λ (t : List ℕ). t ∷ lines) text ∙ ap (λ (ls : List (List ℕ)). overfull_head seed bucket count ∷ ls) pairs.lines_are;
    })

pub lines_sound : (lines : List (List ℕ)) (said : Said) → report_from lines ≡ Ok said → AreLinesOf lines said
unfolding report_from
lines_sound [] said is = absurd (err_ok said 1 is)
lines_sound (l ∷ lines) said is =
    let a = ok_step _ _ said is in
    let head = head_sound l a.value (or_ok _ 1 a.value a.was) in
    rest_sound a.value l lines said head.head head.text_is a.next

pub reads_reports : (bytes : List ℕ) (said : Said) → reading_of bytes ≡ Ok said → IsTextOf bytes said
reads_reports bytes said is =
    let found = lines_sound (lines_in bytes) said is in
    record { valid = found.valid; text = sym (lines_joined bytes) ∙ ap joined found.are ∙ sym (text_lines said) }
