-- Lines that are read one after another.
use Rattle.std.proofs.Common.{◌≡◌, ◌∙◌, ◌⊎◌, inl, inr, ◌<◌, ◌≤◌, ◌+◌, ℕ, suc, List, [], ◌∷◌, ◌++◌, ap, append-nil, append_assoc, sym, subst, refl, arith, Bool, false, Option, None, Some, Result, Ok, Err, length, drop}
use Rattle.std.specs.Option.{IfSome, ok_or, option_map}
use Rattle.std.proofs.lemmas.Bool.{cases_Bool}
use Rattle.std.proofs.lemmas.Option.{same_Some}
use Rattle.cm_algo_names.specs.declared.algorithm.Algorithm.{Algorithm}
use Rattle.cm_spec.specs.declared.limits.TheConstants.{MAX_EDGES}
use Rattle.cm_witness_gather.specs.Gathers.{has_third}
use Rattle.cm_witness_gather.specs.declared.certificate.CoreEdge.{CoreEdge}
use Rattle.cm_witness_gather.specs.declared.certificate.InBucket.{InBucket}
use Rattle.cm_witness_gather.specs.declared.certificate.Pair.{Pair}
use Rattle.cm_witness_report.specs.Lines.{front_line, lines_in}
use Rattle.cm_witness_report.specs.Parts.{head_at, next_edge, next_pair}
use Rattle.cm_witness_report.specs.Reading.{◌>>=◌, Tells, edges_from, pairs_from, report_from, rest_from}
use Rattle.cm_witness_report.specs.Reports.{AreEdges, ArePairs, ComesNext, IsHead, IsPairAfter, Said, core_said, overfull_said}
use Rattle.cm_witness_report.specs.Windows.{HasEnded, TakesLine, first_of, left_bytes}
use Rattle.cm_witness_report.specs.declared.parts.Head.{Head}
use Rattle.cm_witness_report.specs.declared.parts.Head.TheVariants.{Core, Overfull}
use Rattle.cm_witness_report.specs.declared.report.ReportFault.{ReportFault}
use Rattle.cm_witness_report.specs.declared.report.ReportFault.TheVariants as faults
use Rattle.cm_witness_report.proofs.HeadLemmas.{head_sound}
use Rattle.cm_witness_report.proofs.PartLemmas.{next_edge_sound, next_pair_sound}
use Rattle.cm_witness_report.proofs.Tests.{err_then, ok_or_some, ok_then}
use Rattle.cm_witness_report.proofs.WindowLemmas.{IsGood, lines_front, takes_line}

-- the line that was read
pub taken : {X : Type 0} (f : List ℕ → Option X) → ((l : List ℕ) (x : X) → f l ≡ Some x → IsGood l) → (told0 told : Option (List ℕ)) (bytes w0 w w3 line : List ℕ) (place0 place n : ℕ) (ended : Bool) (o : Option X) → told0 ≡ Some bytes → told ≡ told0 → left_bytes told place w ≡ left_bytes told0 place0 w0
    → HasEnded ended told place → (ended ≡ false → 128 ≤ length w) → line ≡ front_line w → n ≡ length line → w3 ≡ drop n w → o ≡ f line → TakesLine f (w0 ++ drop place0 bytes) (w3 ++ drop place bytes) o
taken {X} f good told0 told bytes w0 w w3 line place0 place n ended o is same left stops enough line_is n_is rest found =
    let known : told ≡ Some bytes = same ∙ is in
    let now : option_map (λ (all : List ℕ). w ++ drop place all) told ≡ Some (w ++ drop place bytes) = ap (option_map (λ (all : List ℕ). w ++ drop place all)) known in
    let before : option_map (λ (all : List ℕ). w0 ++ drop place0 all) told0 ≡ Some (w0 ++ drop place0 bytes) = ap (option_map (λ (all : List ℕ). w0 ++ drop place0 all)) is in
    let all : w ++ drop place bytes ≡ w0 ++ drop place0 bytes = same_Some _ _ (sym now ∙ left ∙ before) in
    let cases : (drop place bytes ≡ []) ⊎ (128 ≤ length w) = elim (cases_Bool ended) [
      | inl hit ↦ inl (stops hit bytes known)
      | inr miss ↦ inr (enough miss)
    ] in
    let cut : w3 ≡ drop (length (front_line w)) w = rest ∙ ap (λ (k : ℕ). drop k w) (n_is ∙ ap length line_is) in
    let t = takes_line f good w (drop place bytes) o cases (sym (found ∙ ap f line_is)) in
    subst (λ (old : List ℕ). TakesLine f old (w3 ++ drop place bytes) o) all (subst (λ (r : List ℕ). TakesLine f (w ++ drop place bytes) (r ++ drop place bytes) o) (sym cut) t)

pub head_valid : (l : List ℕ) (o : Option Head) → o ≡ head_at l → IfSome o IsHead
head_valid l None is = tt
head_valid l (Some h) is = (head_sound l h (sym is)).head

pub edge_valid : (third : Bool) (last left : ℕ) (l : List ℕ) (o : Option CoreEdge) → o ≡ next_edge third last left l → IfSome o (ComesNext third last)
edge_valid third last left l None is = tt
edge_valid third last left l (Some e) is = let n = next_edge_sound third last left l e (sym is) in record { rises = n.rises; edge = n.edge }

pub pair_valid : (last : ℕ) (l : List ℕ) (o : Option Pair) → o ≡ next_pair last l → IfSome o (IsPairAfter last)
pair_valid last l None is = tt
pair_valid last l (Some p) is = let n = next_pair_sound last l p (sym is) in record { rises = n.rises; pair = n.pair }

-- edges before others
abbrev pub with_edges : List CoreEdge → Result (List CoreEdge × List (List ℕ)) ℕ → Result (List CoreEdge × List (List ℕ)) ℕ
with_edges es read = read >>= λ x. Ok (es ++ x.0, x.1)

-- the line of the last edge
abbrev pub last_line : ℕ → List CoreEdge → ℕ
last_line last [] = last
last_line last (e ∷ es) = last_line e.line es

pub edges_push : (third : Bool) (last : ℕ) (es : List CoreEdge) (e : CoreEdge) → AreEdges third last es → ComesNext third (last_line last es) e → AreEdges third last (es ++ e ∷ [])
edges_push third last [] e are next = (next.rises, next.edge, tt)
edges_push third last (d ∷ es) e are next = (are.0, are.1, edges_push third d.line es e are.2 next)

pub last_push : (last : ℕ) (es : List CoreEdge) (e : CoreEdge) → e.line ≡ last_line last (es ++ e ∷ [])
last_push last [] e = refl
last_push last (d ∷ es) e = last_push d.line es e

edges_twice : (es : List CoreEdge) (e : CoreEdge) (read : Result (List CoreEdge × List (List ℕ)) ℕ) → with_edges es (with_edges (e ∷ []) read) ≡ with_edges (es ++ e ∷ []) read
edges_twice es e (Ok x) = ap (λ (l : List CoreEdge). let r : Result (List CoreEdge × List (List ℕ)) ℕ = Ok (l, x.1) in r) (sym (append_assoc es (e ∷ []) x.0))
edges_twice es e (Err n) = refl

edges_cons : (third : Bool) (last n left : ℕ) (l : List ℕ) (lines : List (List ℕ)) (e : CoreEdge) → next_edge third last left l ≡ Some e → edges_from third last n (suc left) (l ∷ lines) ≡ with_edges (e ∷ []) (edges_from third e.line (n + 1) left lines)
unfolding edges_from
edges_cons third last n left l lines e is = ok_then (ok_or (next_edge third last left l) n) _ e _ (ok_or_some _ n e is) refl

pub edges_next : (third : Bool) (last n left : ℕ) (old new : List ℕ) (es : List CoreEdge) (e : CoreEdge) → TakesLine (next_edge third last left) old new (Some e) → with_edges es (edges_from third last n (suc left) (lines_in old)) ≡ with_edges (es ++ e ∷ []) (edges_from third e.line (n + 1) left (lines_in new))
edges_next third last n left old new es e takes =
    ap (λ (ls : List (List ℕ)). with_edges es (edges_from third last n (suc left) ls)) takes.1
    ∙ ap (with_edges es) (edges_cons third last n left takes.0 (lines_in new) e takes.2)
    ∙ edges_twice es e (edges_from third e.line (n + 1) left (lines_in new))

edges_stop : (third : Bool) (last n left : ℕ) (lines : List (List ℕ)) → first_of (next_edge third last left) lines ≡ None → edges_from third last n (suc left) lines ≡ Err n
unfolding edges_from
edges_stop third last n left [] none = refl
edges_stop third last n left (l ∷ lines) none = err_then (ok_or (next_edge third last left l) n) _ n (ap (λ (o : Option CoreEdge). ok_or o n) none)

pub edges_bad_line : (third : Bool) (last n left : ℕ) (old new : List ℕ) (es : List CoreEdge) → TakesLine (next_edge third last left) old new None → with_edges es (edges_from third last n (suc left) (lines_in old)) ≡ Err n
edges_bad_line third last n left old new es none = ap (with_edges es) (edges_stop third last n left (lines_in old) none)

pub edges_done : (third : Bool) (last n : ℕ) (lines : List (List ℕ)) (es : List CoreEdge) → with_edges es (edges_from third last n 0 lines) ≡ Ok (es, lines)
unfolding edges_from
edges_done third last n lines es = ap (λ (l : List CoreEdge). let r : Result (List CoreEdge × List (List ℕ)) ℕ = Ok (l, lines) in r) (append-nil es)

pub edges_start : (read : Result (List CoreEdge × List (List ℕ)) ℕ) → with_edges [] read ≡ read
edges_start (Ok x) = refl
edges_start (Err n) = refl

-- pairs before others
abbrev pub with_pairs : List Pair → Result (List Pair) ℕ → Result (List Pair) ℕ
with_pairs ps read = read >>= λ x. Ok (ps ++ x)

-- the later line of the last pair
abbrev pub last_again : ℕ → List Pair → ℕ
last_again last [] = last
last_again last (p ∷ ps) = last_again p.again ps

pub pairs_push : (last : ℕ) (ps : List Pair) (p : Pair) → ArePairs last ps → IsPairAfter (last_again last ps) p → ArePairs last (ps ++ p ∷ [])
pairs_push last [] p are next = (next.rises, next.pair, tt)
pairs_push last (q ∷ ps) p are next = (are.0, are.1, pairs_push q.again ps p are.2 next)

pub again_push : (last : ℕ) (ps : List Pair) (p : Pair) → p.again ≡ last_again last (ps ++ p ∷ [])
again_push last [] p = refl
again_push last (q ∷ ps) p = again_push q.again ps p

pairs_twice : (ps : List Pair) (p : Pair) (read : Result (List Pair) ℕ) → with_pairs ps (with_pairs (p ∷ []) read) ≡ with_pairs (ps ++ p ∷ []) read
pairs_twice ps p (Ok x) = ap (λ (l : List Pair). let r : Result (List Pair) ℕ = Ok l in r) (sym (append_assoc ps (p ∷ []) x))
pairs_twice ps p (Err n) = refl

pairs_cons : (last n room : ℕ) (l : List ℕ) (lines : List (List ℕ)) (p : Pair) → next_pair last l ≡ Some p → pairs_from last n (suc room) (l ∷ lines) ≡ with_pairs (p ∷ []) (pairs_from p.again (n + 1) room lines)
unfolding pairs_from
pairs_cons last n room l lines p is = ok_then (ok_or (next_pair last l) n) _ p _ (ok_or_some _ n p is) refl

pub pairs_next : (last n room : ℕ) (old new : List ℕ) (ps : List Pair) (p : Pair) → TakesLine (next_pair last) old new (Some p) → with_pairs ps (pairs_from last n (suc room) (lines_in old)) ≡ with_pairs (ps ++ p ∷ []) (pairs_from p.again (n + 1) room (lines_in new))
pairs_next last n room old new ps p takes =
    ap (λ (ls : List (List ℕ)). with_pairs ps (pairs_from last n (suc room) ls)) takes.1
    ∙ ap (with_pairs ps) (pairs_cons last n room takes.0 (lines_in new) p takes.2)
    ∙ pairs_twice ps p (pairs_from p.again (n + 1) room (lines_in new))

pairs_stop : (last n room : ℕ) (bytes : List ℕ) → 0 < length bytes → first_of (next_pair last) (lines_in bytes) ≡ None → pairs_from last n (suc room) (lines_in bytes) ≡ Err n
unfolding pairs_from
pairs_stop last n room [] some none = absurd (omega (arith, some))
pairs_stop last n room (b ∷ bs) some none =
    let e = lines_front b bs in
    let none_here : next_pair last (front_line (b ∷ bs)) ≡ None = ap (first_of (next_pair last)) (sym e.1) ∙ none in
    ap (pairs_from last n (suc room)) e.1 ∙ err_then (ok_or (next_pair last (front_line (b ∷ bs))) n) _ n (ap (λ (o : Option Pair). ok_or o n) none_here)

pub pairs_bad_line : (last n room : ℕ) (old new : List ℕ) (ps : List Pair) → 0 < length old → TakesLine (next_pair last) old new None → with_pairs ps (pairs_from last n (suc room) (lines_in old)) ≡ Err n
pairs_bad_line last n room old new ps some none = ap (with_pairs ps) (pairs_stop last n room old some none)

pub pairs_many : (last n : ℕ) (bytes : List ℕ) (ps : List Pair) → 0 < length bytes → with_pairs ps (pairs_from last n 0 (lines_in bytes)) ≡ Err n
unfolding pairs_from
pairs_many last n [] ps some = absurd (omega (arith, some))
pairs_many last n (b ∷ bs) ps some = let e = lines_front b bs in ap (λ (ls : List (List ℕ)). with_pairs ps (pairs_from last n 0 ls)) e.1

pub pairs_done : (last n room : ℕ) (bytes : List ℕ) (ps : List Pair) → bytes ≡ [] → with_pairs ps (pairs_from last n room (lines_in bytes)) ≡ Ok ps
unfolding pairs_from
pairs_done last n room bytes ps none = ap (λ (l : List ℕ). with_pairs ps (pairs_from last n room (lines_in l))) none ∙ ap (λ (l : List Pair). let r : Result (List Pair) ℕ = Ok l in r) (append-nil ps)

pub pairs_start : (read : Result (List Pair) ℕ) → with_pairs [] read ≡ read
pairs_start (Ok x) = refl
pairs_start (Err n) = refl

-- what is left of known bytes is the same
pub left_known : (told' told : Option (List ℕ)) (bytes w' w : List ℕ) (place' place : ℕ) → told' ≡ told → told ≡ Some bytes → left_bytes told' place' w' ≡ left_bytes told place w → w' ++ drop place' bytes ≡ w ++ drop place bytes
left_known told' told bytes w' w place' place same is left =
    let now : option_map (λ (all : List ℕ). w' ++ drop place' all) told' ≡ Some (w' ++ drop place' bytes) = ap (option_map (λ (all : List ℕ). w' ++ drop place' all)) (same ∙ is) in
    let before : option_map (λ (all : List ℕ). w ++ drop place all) told ≡ Some (w ++ drop place bytes) = ap (option_map (λ (all : List ℕ). w ++ drop place all)) is in
    same_Some _ _ (sym now ∙ left ∙ before)

-- a fault of a part is one of the whole
pub tells_then : {X Y Z W : Type 0} (view : X → Y) (whole : Z → W) (fault : ReportFault) (r : Result Y ℕ) (f : Y → Result W ℕ) → Tells view (Err fault) r → Tells whole (Err fault) (r >>= f)
tells_then view whole faults.Memory r f is = tt
tells_then view whole faults.Read r f is = tt
tells_then view whole (faults.Bad line) r f is = err_then r f line is

-- the first line
pub report_none : (lines : List (List ℕ)) → first_of head_at lines ≡ None → report_from lines ≡ Err 1
unfolding report_from
report_none [] is = refl
report_none (l ∷ lines) is = err_then (ok_or (head_at l) 1) _ 1 (ap (λ (o : Option Head). ok_or o 1) is)

pub report_some : (old new : List ℕ) (h : Head) → TakesLine head_at old new (Some h) → report_from (lines_in old) ≡ rest_from h (lines_in new)
unfolding report_from
report_some old new h takes = ap report_from takes.1 ∙ ok_then (ok_or (head_at takes.0) 1) _ h _ (ok_or_some _ 1 h takes.2) refl

-- what comes after it
pub core_edges : (algorithm : Algorithm) (place : Option InBucket) (seed count : ℕ) (lines : List (List ℕ)) (fault : ReportFault) {Z : Type 0} (whole : Z → Said) → Tells {X = List CoreEdge × List (List ℕ)} (λ x. x) (Err fault) (edges_from (has_third algorithm) 0 2 count lines) → Tells whole (Err fault) (rest_from (Core algorithm place seed count) lines)
unfolding rest_from
core_edges algorithm place seed count lines fault whole is = tells_then {X = List CoreEdge × List (List ℕ)} (λ x. x) whole fault _ _ is

pub core_pairs : (algorithm : Algorithm) (place : Option InBucket) (seed count : ℕ) (lines later : List (List ℕ)) (es : List CoreEdge) (fault : ReportFault) {Z : Type 0} (whole : Z → Said) → edges_from (has_third algorithm) 0 2 count lines ≡ Ok (es, later) → Tells {X = List Pair} (λ x. x) (Err fault) (pairs_from 0 (2 + count) MAX_EDGES later) → Tells whole (Err fault) (rest_from (Core algorithm place seed count) lines)
unfolding rest_from
core_pairs algorithm place seed count lines later es fault whole edges is = subst (Tells whole (Err fault)) (sym (ok_then _ _ (es, later) _ edges refl)) (tells_then {X = List Pair} (λ x. x) whole fault _ _ is)

pub core_all : (algorithm : Algorithm) (place : Option InBucket) (seed count : ℕ) (lines later : List (List ℕ)) (es : List CoreEdge) (ps : List Pair) → edges_from (has_third algorithm) 0 2 count lines ≡ Ok (es, later) → pairs_from 0 (2 + count) MAX_EDGES later ≡ Ok ps → rest_from (Core algorithm place seed count) lines ≡ Ok (core_said algorithm place seed es ps)
unfolding rest_from
core_all algorithm place seed count lines later es ps edges pairs = ok_then _ _ (es, later) _ edges (ok_then _ _ ps _ pairs refl)

pub overfull_pairs : (seed bucket count : ℕ) (lines : List (List ℕ)) (fault : ReportFault) {Z : Type 0} (whole : Z → Said) → Tells {X = List Pair} (λ x. x) (Err fault) (pairs_from 0 2 MAX_EDGES lines) → Tells whole (Err fault) (rest_from (Overfull seed bucket count) lines)
unfolding rest_from
overfull_pairs seed bucket count lines fault whole is = tells_then {X = List Pair} (λ x. x) whole fault _ _ is

pub overfull_all : (seed bucket count : ℕ) (lines : List (List ℕ)) (ps : List Pair) → pairs_from 0 2 MAX_EDGES lines ≡ Ok ps → rest_from (Overfull seed bucket count) lines ≡ Ok (overfull_said seed bucket count ps)
unfolding rest_from
overfull_all seed bucket count lines ps pairs = ok_then _ _ ps _ pairs refl
