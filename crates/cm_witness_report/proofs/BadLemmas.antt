-- A bad line: the lines before it begin a report.
use Rattle.std.proofs.Common.{◌≡◌, ◌∙◌, ◌<◌, ◌≤◌, ◌+◌, ◌^◌, inl, inr, ℕ, suc, zero, List, [], ◌∷◌, ◌++◌, ap, append-nil, append_assoc, sym, refl, arith, Bool, true, false, Option, None, Some, Err, map, length, length-append}
use Rattle.std.proofs.lemmas.List.{length-map}
use Rattle.std.specs.Option.{ok_or}
use Rattle.cm_algo_names.specs.declared.algorithm.Algorithm.{Algorithm}
use Rattle.cm_io.specs.Writing.{joined}
use Rattle.cm_io.specs.WritingLaws.{joined-append}
use Rattle.cm_spec.specs.declared.limits.TheConstants.{MAX_EDGES}
use Rattle.cm_witness_gather.specs.Gathers.{has_third}
use Rattle.cm_witness_gather.specs.Reports.{edge_line, head_line, overfull_head, pair_line}
use Rattle.cm_witness_gather.specs.declared.certificate.CoreEdge.{CoreEdge}
use Rattle.cm_witness_gather.specs.declared.certificate.InBucket.{InBucket}
use Rattle.cm_witness_gather.specs.declared.certificate.Pair.{Pair}
use Rattle.cm_witness_report.specs.Lines.{is_line, lines_in}
use Rattle.cm_witness_report.specs.Parts.{head_at, next_edge, next_pair}
use Rattle.cm_witness_report.specs.Reading.{edges_from, pairs_from, reading_of, report_from, rest_from}
use Rattle.cm_witness_report.specs.Reports.{AreEdges, ArePairs, BeginsReport, BeginsWith, IsHead, IsReport, Said, core_said, head_text, overfull_said}
use Rattle.cm_witness_report.specs.declared.parts.Head.{Head}
use Rattle.cm_witness_report.specs.declared.parts.Head.TheVariants.{Core, Overfull}
use Rattle.cm_witness_report.proofs.HeadLemmas.{head_sound}
use Rattle.cm_witness_report.proofs.LineLemmas.{AreLines, edge_whole, edges_whole, head_whole, lines_joined, pairs_whole}
use Rattle.cm_witness_report.proofs.PartLemmas.{next_edge_sound, next_pair_sound}
use Rattle.cm_witness_report.proofs.ReadLemmas.{report_lines, text_lines}
use Rattle.cm_witness_report.proofs.SpelledLemmas.{AreRead, edges_sound}
use Rattle.cm_witness_report.proofs.Tests.{err_same, err_step, ok_err, or_err, or_ok}

-- the third end of an edge that has its ends at vertex 0
third_of : Bool → Option ℕ
third_of false = None
third_of true = Some 0

-- edges with the next lines
abbrev ending : Bool → ℕ → ℕ → List CoreEdge
ending third last zero = []
ending third last (suc left) = record { line = last + 1; first = 0; second = 0; third = third_of third } ∷ ending third (last + 1) left

ending_are : (third : Bool) (last left : ℕ) → last + left < 2 ^ 32 → AreEdges third last (ending third last left)
unfolding third_of
ending_are third last zero room = tt
ending_are false last (suc left) room = (omega arith, record { line = omega (arith, room); first = omega arith; second = omega arith; ends = refl; last = tt }, ending_are false (last + 1) left (omega (arith, room)))
ending_are true last (suc left) room = (omega arith, record { line = omega (arith, room); first = omega arith; second = omega arith; ends = refl; last = omega arith }, ending_are true (last + 1) left (omega (arith, room)))

ending_len : (third : Bool) (last left : ℕ) → length (ending third last left) ≡ left
ending_len third last zero = refl
ending_len third last (suc left) = omega (arith, ending_len third (last + 1) left)

-- the lines before a bad one are those of the first of some edges, of which there are as many as are left
pub record EdgesBad (third : Bool) (last n left : ℕ) (lines : List (List ℕ)) (m : ℕ) : Type 0 where
  pub good : List (List ℕ)
  pub bad : List (List ℕ)
  pub split : lines ≡ good ++ bad
  pub count : n + length good ≡ m
  pub whole : AreLines good
  pub es : List CoreEdge
  pub edges : AreEdges third last es
  pub many : length es ≡ left
  pub more : List (List ℕ)
  pub begins : map edge_line es ≡ good ++ more

-- none of the lines is good
edges_none : (third : Bool) (last n left : ℕ) (lines : List (List ℕ)) (m : ℕ) → last + left < 2 ^ 32 → n ≡ m → EdgesBad third last n left lines m
edges_none third last n left lines m room same = record {
  good = [];
  bad = lines;
  split = refl;
  count = omega (arith, same);
  whole = tt;
  es = ending third last left;
  edges = ending_are third last left room;
  many = ending_len third last left;
  more = map edge_line (ending third last left);
  begins = refl;
}

pub edges_bad : (third : Bool) (last n left : ℕ) (lines : List (List ℕ)) (m : ℕ) → last + left < 2 ^ 32 → edges_from third last n left lines ≡ Err m → EdgesBad third last n left lines m
unfolding edges_from
edges_bad third last n zero lines m room is = absurd (ok_err _ m is)
edges_bad third last n (suc left) [] m room is = edges_none third last n (suc left) [] m room (err_same is)
edges_bad third last n (suc left) (l ∷ lines) m room is = elim (err_step (ok_or (next_edge third last left l) n) _ m is) [
  | inl here ↦ edges_none third last n (suc left) (l ∷ lines) m room (or_err _ n m here)
  | inr a ↦ elim (err_step _ _ m a.next) [
    | inl later ↦
        let next = next_edge_sound third last left l a.value (or_ok _ n a.value a.was) in
        let rest = edges_bad third a.value.line (n + 1) left lines m next.room later in
        record {
          good = l ∷ rest.good;
          bad = rest.bad;
          split = ap (λ (ls : List (List ℕ)). l ∷ ls) rest.split;
          count = omega (arith, rest.count);
          whole = (ap is_line next.text_is ∙ edge_whole third a.value next.edge, rest.whole);
          es = a.value ∷ rest.es;
          edges = (next.rises, next.edge, rest.edges);
          many = omega (arith, rest.many);
          more = rest.more;
          begins = ap (λ (t : List ℕ). t ∷ map edge_line rest.es) (sym next.text_is) ∙ ap (λ (ls : List (List ℕ)). l ∷ ls) rest.begins;
        }
    | inr b ↦ absurd (ok_err _ m b.next)
  ]
]

-- the lines before a bad one are those of some pairs
pub record PairsBad (last n room : ℕ) (lines : List (List ℕ)) (m : ℕ) : Type 0 where
  pub ps : List Pair
  pub bad : List (List ℕ)
  pub split : lines ≡ map pair_line ps ++ bad
  pub count : n + length ps ≡ m
  pub pairs : ArePairs last ps
  pub few : length ps ≤ room

pairs_none : (last n room : ℕ) (lines : List (List ℕ)) (m : ℕ) → n ≡ m → PairsBad last n room lines m
pairs_none last n room lines m same = record { ps = []; bad = lines; split = refl; count = omega (arith, same); pairs = tt; few = omega arith }

pub pairs_bad : (last n room : ℕ) (lines : List (List ℕ)) (m : ℕ) → pairs_from last n room lines ≡ Err m → PairsBad last n room lines m
unfolding pairs_from
pairs_bad last n room [] m is = absurd (ok_err _ m is)
pairs_bad last n zero (l ∷ lines) m is = pairs_none last n 0 (l ∷ lines) m (err_same is)
pairs_bad last n (suc room) (l ∷ lines) m is = elim (err_step (ok_or (next_pair last l) n) _ m is) [
  | inl here ↦ pairs_none last n (suc room) (l ∷ lines) m (or_err _ n m here)
  | inr a ↦ elim (err_step _ _ m a.next) [
    | inl later ↦
        let next = next_pair_sound last l a.value (or_ok _ n a.value a.was) in
        let rest = pairs_bad a.value.again (n + 1) room lines m later in
        record {
          ps = a.value ∷ rest.ps;
          bad = rest.bad;
          split = ap (λ (t : List ℕ). t ∷ lines) next.text_is ∙ ap (λ (ls : List (List ℕ)). pair_line a.value ∷ ls) rest.split;
          count = omega (arith, rest.count);
          pairs = (next.rises, next.pair, rest.pairs);
          few = omega (arith, rest.few);
        }
    | inr b ↦ absurd (ok_err _ m b.next)
  ]
]

-- the lines before a bad one are the first of a report's
pub record LinesBad (lines : List (List ℕ)) (n : ℕ) : Type 0 where
  pub good : List (List ℕ)
  pub bad : List (List ℕ)
  pub split : lines ≡ good ++ bad
  pub count : length good + 1 ≡ n
  pub whole : AreLines good
  pub said : Said
  pub valid : IsReport said
  pub more : List (List ℕ)
  pub begins : report_lines said ≡ good ++ more

-- no line is
first_bad : (lines : List (List ℕ)) (n : ℕ) → 1 ≡ n → LinesBad lines n
first_bad lines n same = record {
  good = [];
  bad = lines;
  split = refl;
  count = omega (arith, same);
  whole = tt;
  said = overfull_said 0 0 0 [];
  valid = record { seed_small = omega arith; bucket_small = omega arith; count_small = omega arith; few_pairs = omega arith; pairs_are = tt };
  more = overfull_head 0 0 0 ∷ [];
  begins = refl;
}

edges_then : (algorithm : Algorithm) (place : Option InBucket) (seed count n : ℕ) (l : List ℕ) (lines : List (List ℕ)) → IsHead (Core algorithm place seed count) → l ≡ head_line algorithm place seed count → EdgesBad (has_third algorithm) 0 2 count lines n → LinesBad (l ∷ lines) n
edges_then algorithm place seed count n l lines head text e =
    let some : 0 < length e.es = omega (arith, head.3, e.many) in
    let few : length e.es ≤ MAX_EDGES = omega (arith, head.4, e.many) in
    record {
      good = l ∷ e.good;
      bad = e.bad;
      split = ap (λ (ls : List (List ℕ)). l ∷ ls) e.split;
      count = omega (arith, e.count);
      whole = (ap is_line text ∙ head_whole (Core algorithm place seed count) head, e.whole);
      said = core_said algorithm place seed e.es [];
      valid = record { place_is = head.0; place_small = head.1; seed_small = head.2; some = some; few = few; edges_are = e.edges; few_pairs = omega arith; pairs_are = tt };
      more = e.more;
      begins = ap (λ (k : ℕ). head_line algorithm place seed k ∷ (map edge_line e.es ++ [])) e.many
          ∙ ap (λ (t : List ℕ). t ∷ (map edge_line e.es ++ [])) (sym text)
          ∙ ap (λ (ls : List (List ℕ)). l ∷ ls) (append-nil (map edge_line e.es) ∙ e.begins);
    }

pairs_then : (algorithm : Algorithm) (place : Option InBucket) (seed count n : ℕ) (l : List ℕ) (lines : List (List ℕ)) (x : List CoreEdge × List (List ℕ)) → IsHead (Core algorithm place seed count) → l ≡ head_line algorithm place seed count → AreRead (has_third algorithm) 0 count lines x
    → PairsBad 0 (2 + count) MAX_EDGES x.1 n → LinesBad (l ∷ lines) n
pairs_then algorithm place seed count n l lines x head text read p =
    let edges : List (List ℕ) = map edge_line x.0 in
    let pairs : List (List ℕ) = map pair_line p.ps in
    let some : 0 < length x.0 = omega (arith, head.3, read.many) in
    let few : length x.0 ≤ MAX_EDGES = omega (arith, head.4, read.many) in
    record {
      good = l ∷ (edges ++ pairs);
      bad = p.bad;
      split = ap (λ (ls : List (List ℕ)). l ∷ ls) (read.lines_are ∙ ap (λ (ls : List (List ℕ)). edges ++ ls) p.split ∙ sym (append_assoc edges pairs p.bad));
      count = omega (arith, p.count, read.many, length-append edges pairs, length-map x.0 edge_line, length-map p.ps pair_line);
      whole = (ap is_line text ∙ head_whole (Core algorithm place seed count) head, edges_whole (has_third algorithm) 0 x.0 pairs read.edges (pairs_whole 0 p.ps p.pairs));
      said = core_said algorithm place seed x.0 p.ps;
      valid = record { place_is = head.0; place_small = head.1; seed_small = head.2; some = some; few = few; edges_are = read.edges; few_pairs = p.few; pairs_are = p.pairs };
      more = [];
      begins = ap (λ (k : ℕ). head_line algorithm place seed k ∷ (edges ++ pairs)) read.many
          ∙ ap (λ (t : List ℕ). t ∷ (edges ++ pairs)) (sym text)
          ∙ ap (λ (ls : List (List ℕ)). l ∷ ls) (sym (append-nil (edges ++ pairs)));
    }

overfull_then : (seed bucket count n : ℕ) (l : List ℕ) (lines : List (List ℕ)) → IsHead (Overfull seed bucket count) → l ≡ overfull_head seed bucket count → PairsBad 0 2 MAX_EDGES lines n → LinesBad (l ∷ lines) n
overfull_then seed bucket count n l lines head text p =
    let pairs : List (List ℕ) = map pair_line p.ps in
    record {
      good = l ∷ pairs;
      bad = p.bad;
      split = ap (λ (ls : List (List ℕ)). l ∷ ls) p.split;
      count = omega (arith, p.count, length-map p.ps pair_line);
      whole = (ap is_line text ∙ head_whole (Overfull seed bucket count) head, pairs_whole 0 p.ps p.pairs);
      said = overfull_said seed bucket count p.ps;
      valid = record { seed_small = head.0; bucket_small = head.1; count_small = head.2; few_pairs = p.few; pairs_are = p.pairs };
      more = [];
      begins = ap (λ (t : List ℕ). t ∷ pairs) (sym text) ∙ ap (λ (ls : List (List ℕ)). l ∷ ls) (sym (append-nil pairs));
    }

rest_bad : (h : Head) (n : ℕ) (l : List ℕ) (lines : List (List ℕ)) → IsHead h → l ≡ head_text h → rest_from h lines ≡ Err n → LinesBad (l ∷ lines) n
unfolding rest_from
rest_bad (Core algorithm place seed count) n l lines head text is = elim (err_step _ _ n is) [
  | inl early ↦ edges_then algorithm place seed count n l lines head text (edges_bad (has_third algorithm) 0 2 count lines n (omega (arith, head.4)) early)
  | inr a ↦ elim (err_step _ _ n a.next) [
    | inl later ↦ pairs_then algorithm place seed count n l lines a.value head text (edges_sound (has_third algorithm) 0 2 count lines a.value a.was) (pairs_bad 0 (2 + count) MAX_EDGES a.value.1 n later)
    | inr b ↦ absurd (ok_err _ n b.next)
  ]
]
rest_bad (Overfull seed bucket count) n l lines head text is = elim (err_step _ _ n is) [
  | inl later ↦ overfull_then seed bucket count n l lines head text (pairs_bad 0 2 MAX_EDGES lines n later)
  | inr b ↦ absurd (ok_err _ n b.next)
]

pub lines_bad : (lines : List (List ℕ)) (n : ℕ) → report_from lines ≡ Err n → LinesBad lines n
unfolding report_from
lines_bad [] n is = first_bad [] n (err_same is)
lines_bad (l ∷ lines) n is = elim (err_step (ok_or (head_at l) 1) _ n is) [
  | inl here ↦ first_bad (l ∷ lines) n (or_err _ 1 n here)
  | inr a ↦ let head = head_sound l a.value (or_ok _ 1 a.value a.was) in rest_bad a.value n l lines head.head head.text_is a.next
]

pub bad_begins : (bytes : List ℕ) (n : ℕ) → reading_of bytes ≡ Err n → (lines : List (List ℕ)) × BeginsWith bytes lines × BeginsReport (joined lines) × (length lines + 1 ≡ n)
bad_begins bytes n is =
    let b = lines_bad (lines_in bytes) n is in (
      b.good,
      record { whole = b.whole; more = joined b.bad; are = sym (lines_joined bytes) ∙ ap joined b.split ∙ joined-append b.good b.bad },
      (b.said, joined b.more, record { valid = b.valid; text = sym (joined-append b.good b.more) ∙ ap joined (sym b.begins) ∙ sym (text_lines b.said) }),
      b.count,
    )
