use Rattle.std.proofs.Common.{◌≡◌, ◌∙◌, ◌-◌, ℕ, List, take, drop, length, length-drop, get_or, sym, subst, ap, arith, false, Option, Some}
use Rattle.std.specs.Str.Parse.{AllDigits}
use Rattle.std.proofs.lemmas.List.{take_all}
use Rattle.cm_witness_report.specs.Fields.{starts_digit}
use Rattle.cm_witness_report.proofs.FieldLemmas.{none_large, none_long, none_no_digit, none_zero, number_found}
use Rattle.cm_witness_report.proofs.fields.number.Goals as goal
use Rattle.cm_witness_report.proofs.fields.number.Goals.{else-text-eq48-via-then-text-eq48+else-n-gt-ZERO_DIGITS, else-text-eq48-via-else-text-eq48}

pub returns-then-n-eq0 : goal.returns-then-n-eq0
returns-then-n-eq0 c =
    let ens = c.first_digits-value.ensures in
    none_no_digit c.args.text.now (subst (λ (k : ℕ). starts_digit (drop k c.args.text.now) ≡ false) c.if-n-eq0.true (ens.stops (omega (arith, c.if-n-eq0.true))))

pub returns-then-n-eq-MANY_DIGITS : goal.returns-then-n-eq-MANY_DIGITS
returns-then-n-eq-MANY_DIGITS c =
    let ens = c.first_digits-value.ensures in
    none_long c.args.text.now (omega (arith, ens.inside, c.if-n-eq-MANY_DIGITS.true)) (subst (λ (k : ℕ). AllDigits 10 (take k c.args.text.now)) c.if-n-eq-MANY_DIGITS.true ens.digits)

pub returns-then-n-gt-ZERO_DIGITS : goal.returns-then-n-gt-ZERO_DIGITS
returns-then-n-gt-ZERO_DIGITS c =
    let ens = c.first_digits-value.ensures in
    none_zero c.args.text.now c.first_digits-value.result.1 ens.inside c.if-n-gt-ZERO_DIGITS.true ens.digits (ens.stops (omega (arith, ens.few, c.if-n-eq-MANY_DIGITS.false))) c.if-text-eq48.true

pub returns-then-value-from : goal.returns-then-value-from
returns-then-value-from c =
    let ens = c.first_digits-value.ensures in
    none_large c.args.text.now c.first_digits-value.result.1 ens.digits (ens.stops (omega (arith, ens.few, c.if-n-eq-MANY_DIGITS.false))) (omega (arith, ens.value, c.if-value-from.true, c.from.ensures))

pub returns : goal.returns
returns c =
    let ens = c.first_digits-value.ensures in
    let text = c.args.text.now in
    let n = c.first_digits-value.result.1 in
    let lead : get_or text 0 0 ≡ 48 → n ≡ 1 = λ zero. elim c.else-text-eq48.branch [
      | else-text-eq48-via-then-text-eq48+else-n-gt-ZERO_DIGITS w ↦ omega (arith, w.if-n-gt-ZERO_DIGITS.false, c.if-n-eq0.false)
      | else-text-eq48-via-else-text-eq48 w ↦ absurd (w.if-text-eq48.false zero)
    ] in
    let rest : take (length text - n) (drop n text) ≡ drop n text = take_all (length text - n) (drop n text) (omega (arith, length-drop n text)) in
    let found = number_found text n ens.inside (omega (arith, ens.few, c.if-n-eq-MANY_DIGITS.false)) (omega (arith, c.if-n-eq0.false)) ens.digits (ens.stops (omega (arith, ens.few, c.if-n-eq-MANY_DIGITS.false))) lead (omega (arith, ens.value, c.if-value-from.false, c.from.ensures)) in
    found ∙ ap (λ (v : ℕ). let o : Option (ℕ × List ℕ) = Some (v, drop n text) in o) (sym ens.value) ∙ ap (λ (l : List ℕ). let o : Option (ℕ × List ℕ) = Some (c.first_digits-value.result.0, l) in o) (sym rest)
