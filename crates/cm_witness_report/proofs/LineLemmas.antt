-- The lines of a text.
use Rattle.std.proofs.Common.{◌≡◌, ◌∙◌, ◌<◌, ◌==◌, ◌^◌, ℕ, List, [], ◌∷◌, ◌++◌, ap, append_assoc, refl, arith, Bool, true, false, Option, None, Some, if◌then◌else◌, map}
use Rattle.std.specs.Fmt.{decimal}
use Rattle.std.specs.List.{AllByRecursion}
use Rattle.std.specs.Option.{IfSome}
use Rattle.std.specs.Str.Parse.{AllDigits}
use Rattle.std.proofs.lemmas.Bool.{cond_both, cond-false, false≢true, true≢false, ne_eqb}
use Rattle.std.proofs.lemmas.Fmt.{decimal_is_IsNumeral}
use Rattle.std.proofs.lemmas.Str.Parse.{digit_from_value}
use Rattle.cm_algo_names.specs.declared.algorithm.Algorithm.TheVariants.{Chm, Bdz, BdzPh, Brz}
use Rattle.cm_io.specs.Writing.{joined}
use Rattle.cm_witness_gather.specs.Reports.{edge_line, pair_line, third_part}
use Rattle.cm_witness_gather.specs.declared.certificate.CoreEdge.{CoreEdge}
use Rattle.cm_witness_gather.specs.declared.certificate.Pair.{Pair}
use Rattle.cm_witness_report.specs.Lines.{is_empty, is_line, lines_in, push_first}
use Rattle.cm_witness_report.specs.Reports.{AreEdges, ArePairs, IsEdge, IsHead, IsPair, IsSmall, head_text}
use Rattle.cm_witness_report.proofs.HeadLemmas.{bucket_text}
use Rattle.cm_witness_report.specs.declared.parts.Head.{Head}
use Rattle.cm_witness_report.specs.declared.parts.Head.TheVariants.{Core, Overfull}

-- each of some lines is whole
abbrev pub AreLines : List (List ℕ) → Type 0
AreLines lines = AllByRecursion (λ l. is_line l ≡ true) lines

whole_case : (t : Bool) (b : ℕ) (l rest : List ℕ) → (if t then is_empty l else is_line l) ≡ true → (is_line l ≡ true → lines_in (l ++ rest) ≡ l ∷ lines_in rest) → (if t then (b ∷ []) ∷ lines_in (l ++ rest) else push_first b (lines_in (l ++ rest))) ≡ (b ∷ l) ∷ lines_in rest
whole_case true b [] rest is ih = refl
whole_case true b (c ∷ l) rest is ih = absurd (false≢true is)
whole_case false b l rest is ih = ap (push_first b) (ih is)

-- a whole line is the first of the lines
pub lines_whole : (l rest : List ℕ) → is_line l ≡ true → lines_in (l ++ rest) ≡ l ∷ lines_in rest
lines_whole [] rest is = absurd (false≢true is)
lines_whole (b ∷ l) rest is = whole_case (b == 10) b l rest is (lines_whole l rest)

push_joined : (b : ℕ) (ls : List (List ℕ)) → joined (push_first b ls) ≡ b ∷ joined ls
push_joined b [] = refl
push_joined b (l ∷ ls) = refl

-- the lines are the text
pub lines_joined : (bytes : List ℕ) → joined (lines_in bytes) ≡ bytes
lines_joined [] = refl
lines_joined (b ∷ bs) = cond_both (b == 10) ((b ∷ []) ∷ lines_in bs) (push_first b (lines_in bs)) (λ (ls : List (List ℕ)). joined ls ≡ b ∷ bs)
    (λ e. ap (λ (l : List ℕ). b ∷ l) (lines_joined bs))
    (λ e. push_joined b (lines_in bs) ∙ ap (λ (l : List ℕ). b ∷ l) (lines_joined bs))

-- whole lines at the start of a text are its first lines
pub lines_begin : (lines : List (List ℕ)) (more : List ℕ) → AreLines lines → lines_in (joined lines ++ more) ≡ lines ++ lines_in more
lines_begin [] more all = refl
lines_begin (l ∷ ls) more all = ap lines_in (append_assoc l (joined ls) more) ∙ lines_whole l (joined ls ++ more) all.0 ∙ ap (λ (x : List (List ℕ)). l ∷ x) (lines_begin ls more all.1)

-- whole lines are the lines of their text
pub lines_all : (lines : List (List ℕ)) → AreLines lines → lines_in (joined lines) ≡ lines
lines_all [] all = refl
lines_all (l ∷ ls) all = lines_whole l (joined ls) all.0 ∙ ap (λ (x : List (List ℕ)). l ∷ x) (lines_all ls all.1)

-- no digit ends a line
digits_line : (ds rest : List ℕ) → AllDigits 10 ds → is_line (ds ++ rest) ≡ is_line rest
digits_line [] rest all = refl
digits_line (c ∷ ds) rest all = cond-false (c == 10) (is_empty (ds ++ rest)) (is_line (ds ++ rest)) (ne_eqb c 10 (λ e. omega (arith, e, digit_from_value c all.0))) ∙ digits_line ds rest all.1

number_line : (n : ℕ) (rest : List ℕ) → n < 2 ^ 32 → is_line (decimal n ++ rest) ≡ is_line rest
number_line n rest small = digits_line (decimal n) rest (decimal_is_IsNumeral n (omega (arith, small))).0.1

third_line : (o : Option ℕ) → IfSome o IsSmall → is_line (third_part o ++ (10 ∷ [])) ≡ true
third_line None small = refl
third_line (Some v) small = number_line v (10 ∷ []) small

-- the lines of a report are whole
pub edge_whole : (third : Bool) (e : CoreEdge) → IsEdge third e → is_line (edge_line e) ≡ true
edge_whole third e is = number_line e.line _ is.line ∙ number_line e.first _ is.first ∙ number_line e.second _ is.second ∙ third_line e.third is.last

pub pair_whole : (p : Pair) → IsPair p → is_line (pair_line p) ≡ true
pair_whole p is = number_line p.first _ (omega (arith, is.order, is.small)) ∙ number_line p.again _ is.small

pub head_whole : (h : Head) → IsHead h → is_line (head_text h) ≡ true
head_whole (Core Chm None seed n) is = number_line seed _ is.2 ∙ number_line n _ (omega (arith, is.4))
head_whole (Core Bdz None seed n) is = number_line seed _ is.2 ∙ number_line n _ (omega (arith, is.4))
head_whole (Core BdzPh None seed n) is = number_line seed _ is.2 ∙ number_line n _ (omega (arith, is.4))
head_whole (Core Brz None seed n) is = number_line seed _ is.2 ∙ number_line n _ (omega (arith, is.4))
head_whole (Core Chm (Some p) seed n) is = absurd (true≢false is.0)
head_whole (Core Bdz (Some p) seed n) is = absurd (true≢false is.0)
head_whole (Core BdzPh (Some p) seed n) is = absurd (true≢false is.0)
head_whole (Core Brz (Some p) seed n) is = ap is_line (bucket_text p seed n) ∙ number_line p.split _ is.1.0 ∙ number_line p.bucket _ is.1.1 ∙ number_line seed _ is.2 ∙ number_line n _ (omega (arith, is.4))
head_whole (Overfull seed bucket count) is = number_line seed _ is.0 ∙ number_line bucket _ is.1 ∙ number_line count _ is.2

pub edges_whole : (third : Bool) (last : ℕ) (es : List CoreEdge) (rest : List (List ℕ)) → AreEdges third last es → AreLines rest → AreLines (map edge_line es ++ rest)
edges_whole third last [] rest is more = more
edges_whole third last (e ∷ es) rest is more = (edge_whole third e is.1, edges_whole third e.line es rest is.2 more)

pub pairs_whole : (last : ℕ) (ps : List Pair) → ArePairs last ps → AreLines (map pair_line ps)
pairs_whole last [] is = tt
pairs_whole last (p ∷ ps) is = (pair_whole p is.1, pairs_whole p.again ps is.2)
