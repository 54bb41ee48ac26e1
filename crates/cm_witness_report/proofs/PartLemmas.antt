-- The lines of edges and pairs.
use Rattle.std.proofs.Common.{◌≡◌, ◌∙◌, ◌<◌, ◌+◌, ◌^◌, ◌&&◌, ℕ, List, [], ◌∷◌, ◌++◌, ap, subst, refl, arith, Bool, true, false, nat_lt, Option, None, Some, codes}
use Rattle.std.specs.Fmt.{decimal}
use Rattle.std.specs.Option.{IfSome, is_some}
use Rattle.std.proofs.lemmas.Bool.{and_from, and_parts, cond-true, false≢true, true≢false, lt-ltb, ltb-true}
use Rattle.std.proofs.lemmas.Option.{same_Some}
use Rattle.cm_witness_gather.specs.Reports.{edge_line, pair_line, third_part}
use Rattle.cm_witness_gather.specs.declared.certificate.CoreEdge.{CoreEdge}
use Rattle.cm_witness_gather.specs.declared.certificate.Pair.{Pair}
use Rattle.cm_witness_report.specs.Fields.{field_at, starts_digit}
use Rattle.cm_witness_report.specs.Parts.{edge_at, next_edge, next_pair, pair_at, third_at}
use Rattle.cm_witness_report.specs.Reports.{IsEdge, IsPair, IsSmall}
use Rattle.cm_witness_report.proofs.FieldLemmas.{ends_sound, field_sound, field_there}
use Rattle.cm_witness_report.proofs.Tests.{found_then, guard_some, step}

-- what was read as the third end
pub record IsThird (third : Bool) (text : List ℕ) (x : Option ℕ × List ℕ) : Type 0 where
  pub text_is : text ≡ third_part x.0 ++ x.1
  pub ends : is_some x.0 ≡ third
  pub small : IfSome x.0 IsSmall

third_sound : (third : Bool) (text : List ℕ) (x : Option ℕ × List ℕ) → third_at third text ≡ Some x → IsThird third text x
unfolding third_at
third_sound false text x is = subst (IsThird false text) (same_Some (let p : Option ℕ × List ℕ = (None, text) in p) x is) (record { text_is = refl; ends = refl; small = tt })
third_sound true text x is =
    let s = step (field_at (codes " ") text) _ x is in
    let f = field_sound (codes " ") text s.value s.was in
    subst (IsThird true text) (same_Some (let p : Option ℕ × List ℕ = (Some s.value.0, s.value.1) in p) x s.next) (record { text_is = f.0; ends = refl; small = f.1 })

third_there : (third : Bool) (o : Option ℕ) (rest : List ℕ) → is_some o ≡ third → IfSome o IsSmall → starts_digit rest ≡ false → third_at third (third_part o ++ rest) ≡ Some (o, rest)
unfolding third_at
third_there false None rest is small stop = refl
third_there true None rest is small stop = absurd (false≢true is)
third_there false (Some v) rest is small stop = absurd (true≢false is)
third_there true (Some v) rest is small stop = found_then _ _ (v, rest) _ (field_there (codes " ") v rest small stop) refl

third_stop : (o : Option ℕ) → starts_digit (third_part o ++ (10 ∷ [])) ≡ false
third_stop None = refl
third_stop (Some v) = refl

-- the line of an edge
pub record IsEdgeLine (third : Bool) (text : List ℕ) (e : CoreEdge) : Type 0 where
  pub text_is : text ≡ edge_line e
  pub edge : IsEdge third e

pub edge_sound : (third : Bool) (text : List ℕ) (e : CoreEdge) → edge_at third text ≡ Some e → IsEdgeLine third text e
unfolding edge_at
edge_sound third text e is =
    let a = step (field_at (codes "edge ") text) _ e is in
    let b = step (field_at (codes " ") a.value.1) _ e a.next in
    let c = step (field_at (codes " ") b.value.1) _ e b.next in
    let d = step (third_at third c.value.1) _ e c.next in
    let l = guard_some _ _ e d.next in
    let fa = field_sound (codes "edge ") text a.value a.was in
    let fb = field_sound (codes " ") a.value.1 b.value b.was in
    let fc = field_sound (codes " ") b.value.1 c.value c.was in
    let fd = third_sound third c.value.1 d.value d.was in
    let fe = ends_sound d.value.1 l.0 in
    let found : CoreEdge = record { line = a.value.0; first = b.value.0; second = c.value.0; third = d.value.0 } in
    let text_is : text ≡ edge_line found =
    fa.0 ∙ ap (λ (r : List ℕ). codes "edge " ++ (decimal a.value.0 ++ r)) (fb.0 ∙ ap (λ (r : List ℕ). codes " " ++ (decimal b.value.0 ++ r)) (fc.0 ∙ ap (λ (r : List ℕ). codes " " ++ (decimal c.value.0 ++ r)) (fd.text_is ∙ ap (λ (r : List ℕ). third_part d.value.0 ++ r) fe))) in
    subst (IsEdgeLine third text) (same_Some found e l.1) (record { text_is = text_is; edge = record { line = fa.1; first = fb.1; second = fc.1; ends = fd.ends; last = fd.small } })

pub edge_there : (third : Bool) (e : CoreEdge) → IsEdge third e → edge_at third (edge_line e) ≡ Some e
unfolding edge_at
edge_there third e is =
    let r3 : List ℕ = 10 ∷ [] in
    let r2 : List ℕ = third_part e.third ++ r3 in
    let r1 : List ℕ = codes " " ++ (decimal e.second ++ r2) in
    let r0 : List ℕ = codes " " ++ (decimal e.first ++ r1) in
    found_then _ _ (e.line, r0) _ (field_there (codes "edge ") e.line r0 is.line refl)
    (found_then _ _ (e.first, r1) _ (field_there (codes " ") e.first r1 is.first refl)
    (found_then _ _ (e.second, r2) _ (field_there (codes " ") e.second r2 is.second (third_stop e.third))
    (found_then _ _ (e.third, r3) _ (third_there third e.third r3 is.ends is.last refl) refl)))

-- the line of a pair
pub record IsPairLine (text : List ℕ) (p : Pair) : Type 0 where
  pub text_is : text ≡ pair_line p
  pub pair : IsPair p

pub pair_sound : (text : List ℕ) (p : Pair) → pair_at text ≡ Some p → IsPairLine text p
unfolding pair_at
pair_sound text p is =
    let a = step (field_at (codes "equal ") text) _ p is in
    let b = step (field_at (codes " ") a.value.1) _ p a.next in
    let l = guard_some _ _ p b.next in
    let tests = and_parts _ _ l.0 in
    let order = and_parts _ _ tests.1 in
    let fa = field_sound (codes "equal ") text a.value a.was in
    let fb = field_sound (codes " ") a.value.1 b.value b.was in
    let fe = ends_sound b.value.1 tests.0 in
    let found : Pair = record { first = a.value.0; again = b.value.0 } in
    let text_is : text ≡ pair_line found =
    fa.0 ∙ ap (λ (r : List ℕ). codes "equal " ++ (decimal a.value.0 ++ r)) (fb.0 ∙ ap (λ (r : List ℕ). codes " " ++ (decimal b.value.0 ++ r)) fe) in
    subst (IsPairLine text) (same_Some found p l.1) (record { text_is = text_is; pair = record { some = ltb-true _ _ order.0; order = ltb-true _ _ order.1; small = fb.1 } })

pub pair_there : (p : Pair) → IsPair p → pair_at (pair_line p) ≡ Some p
unfolding pair_at
pair_there p is =
    let r1 : List ℕ = 10 ∷ [] in
    let r0 : List ℕ = codes " " ++ (decimal p.again ++ r1) in
    let small : IsSmall p.first = omega (arith, is.order, is.small) in
    found_then _ _ (p.first, r0) _ (field_there (codes "equal ") p.first r0 small refl)
    (found_then _ _ (p.again, r1) _ (field_there (codes " ") p.again r1 is.small refl)
    (cond-true (nat_lt 0 p.first && nat_lt p.first p.again) (let o : Option Pair = Some p in o) None (and_from _ _ (lt-ltb 0 p.first is.some) (lt-ltb p.first p.again is.order))))

-- the next edge and the next pair
pub record IsNextEdge (third : Bool) (last left : ℕ) (text : List ℕ) (e : CoreEdge) : Type 0 where
  pub rises : last < e.line
  pub room : e.line + left < 2 ^ 32
  pub text_is : text ≡ edge_line e
  pub edge : IsEdge third e

pub next_edge_sound : (third : Bool) (last left : ℕ) (text : List ℕ) (e : CoreEdge) → next_edge third last left text ≡ Some e → IsNextEdge third last left text e
unfolding next_edge
next_edge_sound third last left text e is =
    let s = step (edge_at third text) _ e is in
    let l = guard_some _ _ e s.next in
    let tests = and_parts _ _ l.0 in
    let same : s.value ≡ e = same_Some s.value e l.1 in
    let line = edge_sound third text s.value s.was in
    subst (IsNextEdge third last left text) same (record { rises = ltb-true _ _ tests.0; room = ltb-true _ _ tests.1; text_is = line.text_is; edge = line.edge })

pub next_edge_there : (third : Bool) (last left : ℕ) (e : CoreEdge) → IsEdge third e → last < e.line → e.line + left < 2 ^ 32 → next_edge third last left (edge_line e) ≡ Some e
unfolding next_edge
next_edge_there third last left e is rises room =
    found_then _ _ e _ (edge_there third e is) (cond-true (nat_lt last e.line && nat_lt (e.line + left) (2 ^ 32)) (let o : Option CoreEdge = Some e in o) None (and_from _ _ (lt-ltb last e.line rises) (lt-ltb (e.line + left) (2 ^ 32) room)))

pub record IsNextPair (last : ℕ) (text : List ℕ) (p : Pair) : Type 0 where
  pub rises : last < p.again
  pub text_is : text ≡ pair_line p
  pub pair : IsPair p

pub next_pair_sound : (last : ℕ) (text : List ℕ) (p : Pair) → next_pair last text ≡ Some p → IsNextPair last text p
unfolding next_pair
next_pair_sound last text p is =
    let s = step (pair_at text) _ p is in
    let l = guard_some _ _ p s.next in
    let line = pair_sound text s.value s.was in
    subst (IsNextPair last text) (same_Some s.value p l.1) (record { rises = ltb-true _ _ l.0; text_is = line.text_is; pair = line.pair })

pub next_pair_there : (last : ℕ) (p : Pair) → IsPair p → last < p.again → next_pair last (pair_line p) ≡ Some p
unfolding next_pair
next_pair_there last p is rises =
    found_then _ _ p _ (pair_there p is) (cond-true (nat_lt last p.again) (let o : Option Pair = Some p in o) None (lt-ltb last p.again rises))
