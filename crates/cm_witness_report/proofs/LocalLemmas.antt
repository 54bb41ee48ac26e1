-- Whether a line is bad depends on the lines up to it.
use Rattle.std.proofs.Common.{◌≡◌, ◌∙◌, ◌<◌, ◌≤◌, ◌+◌, inl, inr, ℕ, suc, zero, List, [], ◌∷◌, ◌++◌, ap, sym, subst, refl, arith, Bool, Ok, Err, length}
use Rattle.std.proofs.lemmas.Bool.{cases_lt}
use Rattle.std.specs.Option.{ok_or}
use Rattle.cm_io.specs.Writing.{joined}
use Rattle.cm_spec.specs.declared.limits.TheConstants.{MAX_EDGES}
use Rattle.cm_witness_gather.specs.Gathers.{has_third}
use Rattle.cm_witness_gather.specs.declared.certificate.CoreEdge.{CoreEdge}
use Rattle.cm_witness_report.specs.Lines.{lines_in}
use Rattle.cm_witness_report.specs.Parts.{head_at, next_edge, next_pair}
use Rattle.cm_witness_report.specs.Reading.{edges_from, pairs_from, reading_of, report_from, rest_from}
use Rattle.cm_witness_report.specs.Reports.{BeginsReport, BeginsWith}
use Rattle.cm_witness_report.specs.declared.parts.Head.{Head}
use Rattle.cm_witness_report.specs.declared.parts.Head.TheVariants.{Core, Overfull}
use Rattle.cm_witness_report.proofs.BadLemmas.{lines_bad}
use Rattle.cm_witness_report.proofs.LineLemmas.{lines_begin}
use Rattle.cm_witness_report.proofs.ReadLemmas.{read_back}
use Rattle.cm_witness_report.proofs.Tests.{err_same, err_step, err_then, ok_err, ok_same, ok_step, ok_then, or_err}

-- a bad line is one of those that were read
edges_low : (third : Bool) (last n left : ℕ) (lines : List (List ℕ)) (m : ℕ) → edges_from third last n left lines ≡ Err m → n ≤ m
unfolding edges_from
edges_low third last n zero lines m is = absurd (ok_err _ m is)
edges_low third last n (suc left) [] m is = let same : n ≡ m = err_same is in omega (arith, same)
edges_low third last n (suc left) (l ∷ lines) m is = elim (err_step (ok_or (next_edge third last left l) n) _ m is) [
  | inl here ↦ let same : n ≡ m = or_err _ n m here in omega (arith, same)
  | inr a ↦ elim (err_step _ _ m a.next) [
    | inl later ↦ let low : n + 1 ≤ m = edges_low third a.value.line (n + 1) left lines m later in omega (arith, low)
    | inr b ↦ absurd (ok_err _ m b.next)
  ]
]

pairs_low : (last n room : ℕ) (lines : List (List ℕ)) (m : ℕ) → pairs_from last n room lines ≡ Err m → n ≤ m
unfolding pairs_from
pairs_low last n room [] m is = absurd (ok_err _ m is)
pairs_low last n zero (l ∷ lines) m is = let same : n ≡ m = err_same is in omega (arith, same)
pairs_low last n (suc room) (l ∷ lines) m is = elim (err_step (ok_or (next_pair last l) n) _ m is) [
  | inl here ↦ let same : n ≡ m = or_err _ n m here in omega (arith, same)
  | inr a ↦ elim (err_step _ _ m a.next) [
    | inl later ↦ let low : n + 1 ≤ m = pairs_low a.value.again (n + 1) room lines m later in omega (arith, low)
    | inr b ↦ absurd (ok_err _ m b.next)
  ]
]

-- it is bad whatever comes after it
edges_local : (third : Bool) (last n left : ℕ) (ls x y : List (List ℕ)) (m : ℕ) → edges_from third last n left (ls ++ x) ≡ Err m → m < n + length ls → edges_from third last n left (ls ++ y) ≡ Err m
unfolding edges_from
edges_local third last n zero ls x y m is early = absurd (ok_err _ m is)
edges_local third last n (suc left) [] x y m is early = let low : n ≤ m = edges_low third last n (suc left) x m is in absurd (omega (arith, low, early))
edges_local third last n (suc left) (l ∷ ls) x y m is early = elim (err_step (ok_or (next_edge third last left l) n) _ m is) [
  | inl here ↦ err_then _ _ m here
  | inr a ↦ elim (err_step _ _ m a.next) [
    | inl later ↦ ok_then _ _ a.value _ a.was (err_then _ _ m (edges_local third a.value.line (n + 1) left ls x y m later (omega (arith, early))))
    | inr b ↦ absurd (ok_err _ m b.next)
  ]
]

pairs_local : (last n room : ℕ) (ls x y : List (List ℕ)) (m : ℕ) → pairs_from last n room (ls ++ x) ≡ Err m → m < n + length ls → pairs_from last n room (ls ++ y) ≡ Err m
unfolding pairs_from
pairs_local last n room [] x y m is early = let low : n ≤ m = pairs_low last n room x m is in absurd (omega (arith, low, early))
pairs_local last n zero (l ∷ ls) x y m is early = is
pairs_local last n (suc room) (l ∷ ls) x y m is early = elim (err_step (ok_or (next_pair last l) n) _ m is) [
  | inl here ↦ err_then _ _ m here
  | inr a ↦ elim (err_step _ _ m a.next) [
    | inl later ↦ ok_then _ _ a.value _ a.was (err_then _ _ m (pairs_local a.value.again (n + 1) room ls x y m later (omega (arith, early))))
    | inr b ↦ absurd (ok_err _ m b.next)
  ]
]

-- the edges are the same whatever comes after them
pub record Past (third : Bool) (last n left : ℕ) (ls x y : List (List ℕ)) (r : List CoreEdge × List (List ℕ)) : Type 0 where
  pub rest : List (List ℕ)
  pub after : r.1 ≡ rest ++ x
  pub count : left + length rest ≡ length ls
  pub other : edges_from third last n left (ls ++ y) ≡ Ok (r.0, rest ++ y)

edges_past : (third : Bool) (last n left : ℕ) (ls x y : List (List ℕ)) (r : List CoreEdge × List (List ℕ)) → left ≤ length ls → edges_from third last n left (ls ++ x) ≡ Ok r → Past third last n left ls x y r
unfolding edges_from
edges_past third last n zero ls x y r few is = subst (Past third last n 0 ls x y) (let e : ([], ls ++ x) ≡ r = ok_same is in e) (record { rest = ls; after = refl; count = omega arith; other = refl })
edges_past third last n (suc left) [] x y r few is = absurd (omega (arith, few))
edges_past third last n (suc left) (l ∷ ls) x y r few is =
    let a = ok_step (ok_or (next_edge third last left l) n) _ r is in
    let b = ok_step _ _ r a.next in
    let p = edges_past third a.value.line (n + 1) left ls x y b.value (omega (arith, few)) b.was in
    subst (Past third last n (suc left) (l ∷ ls) x y) (let e : (a.value ∷ b.value.0, b.value.1) ≡ r = ok_same b.next in e) (record {
      rest = p.rest;
      after = p.after;
      count = omega (arith, p.count);
      other = ok_then _ _ a.value _ a.was (ok_then _ _ (b.value.0, p.rest ++ y) _ p.other refl);
    })

rest_local : (h : Head) (ls x y : List (List ℕ)) (m : ℕ) → rest_from h (ls ++ x) ≡ Err m → m < 2 + length ls → rest_from h (ls ++ y) ≡ Err m
unfolding rest_from
rest_local (Core algorithm place seed count) ls x y m is early = elim (err_step _ _ m is) [
  | inl here ↦ err_then _ _ m (edges_local (has_third algorithm) 0 2 count ls x y m here early)
  | inr a ↦ elim (err_step _ _ m a.next) [
    | inl later ↦
        let low : 2 + count ≤ m = pairs_low 0 (2 + count) MAX_EDGES a.value.1 m later in
        let p = edges_past (has_third algorithm) 0 2 count ls x y a.value (omega (arith, low, early)) a.was in
        let moved : pairs_from 0 (2 + count) MAX_EDGES (p.rest ++ x) ≡ Err m = ap (pairs_from 0 (2 + count) MAX_EDGES) (sym p.after) ∙ later in
        ok_then _ _ (a.value.0, p.rest ++ y) _ p.other (err_then _ _ m (pairs_local 0 (2 + count) MAX_EDGES p.rest x y m moved (omega (arith, early, p.count))))
    | inr b ↦ absurd (ok_err _ m b.next)
  ]
]
rest_local (Overfull seed bucket count) ls x y m is early = elim (err_step _ _ m is) [
  | inl here ↦ err_then _ _ m (pairs_local 0 2 MAX_EDGES ls x y m here early)
  | inr b ↦ absurd (ok_err _ m b.next)
]

lines_local : (ls x y : List (List ℕ)) (m : ℕ) → report_from (ls ++ x) ≡ Err m → m ≤ length ls → report_from (ls ++ y) ≡ Err m
unfolding report_from
lines_local [] x y m is early = let b = lines_bad x m is in absurd (omega (arith, early, b.count))
lines_local (l ∷ ls) x y m is early = elim (err_step (ok_or (head_at l) 1) _ m is) [
  | inl here ↦ err_then _ _ m here
  | inr a ↦ ok_then _ _ a.value _ a.was (rest_local a.value ls x y m a.next (omega (arith, early)))
]

-- no report begins with the lines up to a bad one
pub bad_most : (bytes : List ℕ) (n : ℕ) (lines : List (List ℕ)) → reading_of bytes ≡ Err n → BeginsWith bytes lines → BeginsReport (joined lines) → length lines < n
bad_most bytes n lines is with_lines report = elim (cases_lt (length lines) n) [
  | inl l ↦ l
  | inr ge ↦
      let here : report_from (lines ++ lines_in with_lines.more) ≡ Err n = ap report_from (sym (ap lines_in with_lines.are ∙ lines_begin lines with_lines.more with_lines.whole)) ∙ is in
      let bad : report_from (lines ++ lines_in report.1) ≡ Err n = lines_local lines (lines_in with_lines.more) (lines_in report.1) n here ge in
      let good : report_from (lines ++ lines_in report.1) ≡ Ok report.0 = ap report_from (sym (lines_begin lines report.1 with_lines.whole) ∙ ap lines_in report.2.text) ∙ read_back report.0 report.2.valid in
      absurd (ok_err report.0 n (sym good ∙ bad))
]
