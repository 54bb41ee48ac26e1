-- The numbers of a line.
use Rattle.std.proofs.Common.{◌≡◌, ◌∙◌, ◌<◌, ◌≤◌, ◌==◌, inl, inr, ◌&&◌, ◌^◌, ℕ, List, [], ◌∷◌, ◌++◌, length, length-take, get_or, take, drop, ap, sym, refl, arith, true, false, nat_lt, Option, None, Some}
use Rattle.std.specs.Char.{is_digit}
use Rattle.std.specs.Fmt.{decimal}
use Rattle.std.specs.Str.{bytes_eq}
use Rattle.std.specs.Str.Parse.{AllDigits, digits_value}
use Rattle.std.proofs.lemmas.Bool.{and_from, and_parts, cond_both, cond-false, cond-true, cases_lt, eq-eqb, eqb-true, false≢true, lt-ltb, ltb-true}
use Rattle.std.proofs.lemmas.Fmt.{decimal_digit, decimal_is_IsNumeral, decimal-digits_value, first_decimal, length-decimal-le}
use Rattle.std.proofs.lemmas.List.{drop_at, get_or-take, take_at, take-append-drop}
use Rattle.std.proofs.lemmas.Option.{none-some, same_Some}
use Rattle.std.proofs.lemmas.Str.Parse.{IsNumeralModel, digits_value_short, numerals_by_value, tells_digits}
use Rattle.std.proofs.lemmas.Slice.Eq.{bytes_eq-Decides}
use Rattle.cm_witness_report.specs.Fields.{after, digits_of, ends, field_at, number_at, number_of, starts_digit}
use Rattle.cm_witness_report.proofs.Tests.{found_then, guard_some, none_from, step}

-- the digits of std, and what they write
own : IsNumeralModel (AllDigits 10) (digits_value 10)
own = numerals_by_value _ tells_digits

pub value_short : (ds : List ℕ) → AllDigits 10 ds → length ds ≤ 11 → digits_value 10 ds < 10 ^ 11
value_short ds all few = digits_value_short own ds 11 all few

digits_front : (text : List ℕ) → text ≡ digits_of text ++ drop (length (digits_of text)) text
digits_front [] = refl
digits_front (c ∷ text) = cond_both (is_digit c 10) (c ∷ digits_of text) [] (λ ds. c ∷ text ≡ ds ++ drop (length ds) (c ∷ text)) (λ e. ap (λ (l : List ℕ). c ∷ l) (digits_front text)) (λ e. refl)

digits_before : (ds rest : List ℕ) → AllDigits 10 ds → starts_digit rest ≡ false → digits_of (ds ++ rest) ≡ ds
digits_before [] [] all stop = refl
digits_before [] (c ∷ rest) all stop = cond-false (is_digit c 10) (c ∷ digits_of rest) [] stop
digits_before (c ∷ ds) rest all stop = cond-true (is_digit c 10) (c ∷ digits_of (ds ++ rest)) [] (lt-ltb _ 10 all.0) ∙ ap (λ (l : List ℕ). c ∷ l) (digits_before ds rest all.1 stop)

pub number_of_is : (ds text : List ℕ) (n : ℕ) → digits_value 10 ds ≡ n → decimal n ≡ ds → n < 2 ^ 32 → number_of ds text ≡ Some (n, drop (length ds) text)
number_of_is ds text n value same small =
    let found : Option (ℕ × List ℕ) = Some (digits_value 10 ds, drop (length ds) text) in
    cond-true (bytes_eq (decimal (digits_value 10 ds)) ds && nat_lt (digits_value 10 ds) (2 ^ 32)) found None (and_from _ _ ((bytes_eq-Decides _ _).1 (ap decimal value ∙ same)) (lt-ltb _ _ (omega (arith, value, small))))
    ∙ ap (λ (k : ℕ). let o : Option (ℕ × List ℕ) = Some (k, drop (length ds) text) in o) value

-- what was read as a number
pub record IsNumberOf (ds text : List ℕ) (x : ℕ × List ℕ) : Type 0 where
  pub written : decimal x.0 ≡ ds
  pub small : x.0 < 2 ^ 32
  pub rest : x.1 ≡ drop (length ds) text

pub number_of_sound : (ds text : List ℕ) (x : ℕ × List ℕ) → number_of ds text ≡ Some x → IsNumberOf ds text x
number_of_sound ds text x is =
    let parts = guard_some _ _ _ is in
    let tests = and_parts _ _ parts.0 in
    let same : (digits_value 10 ds, drop (length ds) text) ≡ x = same_Some _ _ parts.1 in
    let value : digits_value 10 ds ≡ x.0 = ap (λ (p : ℕ × List ℕ). p.0) same in
    record {
      written = ap decimal (sym value) ∙ (bytes_eq-Decides _ _).0 tests.0;
      small = omega (arith, value, ltb-true _ _ tests.1);
      rest = ap (λ (p : ℕ × List ℕ). p.1) (sym same);
    }

pub number_again : (n : ℕ) (rest : List ℕ) → n < 2 ^ 32 → starts_digit rest ≡ false → number_at (decimal n ++ rest) ≡ Some (n, rest)
number_again n rest small stop =
    let is = decimal_is_IsNumeral n (omega (arith, small)) in
    let text : List ℕ = decimal n ++ rest in
    ap (λ (ds : List ℕ). number_of ds text) (digits_before (decimal n) rest is.0.1 stop)
    ∙ number_of_is (decimal n) text n is.1 refl small
    ∙ ap (λ (l : List ℕ). let o : Option (ℕ × List ℕ) = Some (n, l) in o) (drop_at (decimal n) rest (length (decimal n)) refl)

number_sound : (text : List ℕ) (x : ℕ × List ℕ) → number_at text ≡ Some x → (text ≡ decimal x.0 ++ x.1) × (x.0 < 2 ^ 32)
number_sound text x is =
    let found = number_of_sound (digits_of text) text x is in
    (digits_front text ∙ ap (λ (l : List ℕ). digits_of text ++ l) (sym found.rest) ∙ ap (λ (l : List ℕ). l ++ x.1) (sym found.written), found.small)

after_sound : (part text rest : List ℕ) → after part text ≡ Some rest → text ≡ part ++ rest
after_sound [] text rest is = same_Some text rest is
after_sound (b ∷ part) [] rest is = absurd (none-some rest is)
after_sound (b ∷ part) (c ∷ text) rest is =
    let parts = guard_some (b == c) (after part text) rest is in
    let same : b ≡ c = eqb-true b c parts.0 in
    ap (λ (d : ℕ). d ∷ text) (sym same) ∙ ap (λ (l : List ℕ). b ∷ l) (after_sound part text rest parts.1)

after_there : (part rest : List ℕ) → after part (part ++ rest) ≡ Some rest
after_there [] rest = refl
after_there (b ∷ part) rest = cond-true (b == b) (after part (part ++ rest)) None (eq-eqb b b refl) ∙ after_there part rest

-- what follows some bytes is what is left of a text without them
pub after_cut : (part text : List ℕ) → bytes_eq (take (length part) text) part ≡ true → after part text ≡ Some (drop (length part) text)
after_cut part text same =
    let is : take (length part) text ≡ part = (bytes_eq-Decides _ _).0 same in
    ap (after part) (sym (take-append-drop (length part) text) ∙ ap (λ (l : List ℕ). l ++ drop (length part) text) is) ∙ after_there part (drop (length part) text)

pub after_none : (part text : List ℕ) → bytes_eq (take (length part) text) part ≡ false → after part text ≡ None
after_none part text other = none_from (after part text) (λ rest is.
    let begins : take (length part) text ≡ part = ap (λ (l : List ℕ). take (length part) l) (after_sound part text rest is) ∙ take_at part rest (length part) refl in
    false≢true (sym other ∙ (bytes_eq-Decides _ _).1 begins))

-- the digits of a text are those up to its first other byte
pub digits_cut : (text : List ℕ) (n : ℕ) → AllDigits 10 (take n text) → starts_digit (drop n text) ≡ false → digits_of text ≡ take n text
digits_cut text n all stop = ap digits_of (sym (take-append-drop n text)) ∙ digits_before (take n text) (drop n text) all stop

digits_more : (ds rest : List ℕ) → AllDigits 10 ds → length ds ≤ length (digits_of (ds ++ rest))
digits_more [] rest all = omega arith
digits_more (c ∷ ds) rest all =
    let e : digits_of (c ∷ (ds ++ rest)) ≡ c ∷ digits_of (ds ++ rest) = cond-true (is_digit c 10) (c ∷ digits_of (ds ++ rest)) [] (lt-ltb _ 10 all.0) in
    let more : length ds ≤ length (digits_of (ds ++ rest)) = digits_more ds rest all.1 in
    omega (arith, ap length e, more)

-- what is a number has no more than ten digits, one at least, and a zero first only if it is 0
pub number_found : (text : List ℕ) (n : ℕ) → n ≤ length text → n < 11 → 0 < n → AllDigits 10 (take n text) → starts_digit (drop n text) ≡ false → (get_or text 0 0 ≡ 48 → n ≡ 1) → digits_value 10 (take n text) < 2 ^ 32 → number_at text ≡ Some (digits_value 10 (take n text), drop n text)
number_found text n inside few some all stop lead small =
    let ds : List ℕ = take n text in
    let size : length ds ≡ n = omega (arith, length-take n text, inside) in
    let first : get_or ds 0 0 ≡ get_or text 0 0 = get_or-take n text 0 0 some in
    let written : decimal (digits_value 10 ds) ≡ ds = decimal-digits_value own ds all (omega (arith, size, some)) (λ zero. omega (arith, size, lead (sym first ∙ zero))) (omega (arith, small)) in
    ap (λ (l : List ℕ). number_of l text) (digits_cut text n all stop) ∙ number_of_is ds text (digits_value 10 ds) refl written small ∙ ap (λ (k : ℕ). let o : Option (ℕ × List ℕ) = Some (digits_value 10 ds, drop k text) in o) size

pub none_no_digit : (text : List ℕ) → starts_digit text ≡ false → number_at text ≡ None
none_no_digit text stop = none_from (number_at text) (λ x is.
    let found = number_of_sound (digits_of text) text x is in
    let some : 0 < length (decimal x.0) = (decimal_is_IsNumeral x.0 (omega (arith, found.small))).0.0 in
    omega (arith, some, ap length (found.written ∙ digits_cut text 0 tt stop)))

pub none_long : (text : List ℕ) → 11 ≤ length text → AllDigits 10 (take 11 text) → number_at text ≡ None
none_long text long all = none_from (number_at text) (λ x is.
    let found = number_of_sound (digits_of text) text x is in
    let few : length (decimal x.0) ≤ 10 = length-decimal-le 10 x.0 (omega arith) (omega (arith, found.small)) (omega (arith, found.small)) in
    let more : 11 ≤ length (digits_of text) = omega (arith, digits_more (take 11 text) (drop 11 text) all, length-take 11 text, long, ap (λ (l : List ℕ). length (digits_of l)) (take-append-drop 11 text)) in
    omega (arith, few, more, ap length found.written))

pub none_zero : (text : List ℕ) (n : ℕ) → n ≤ length text → 1 < n → AllDigits 10 (take n text) → starts_digit (drop n text) ≡ false → get_or text 0 0 ≡ 48 → number_at text ≡ None
none_zero text n inside some all stop zero = none_from (number_at text) (λ x is.
    let found = number_of_sound (digits_of text) text x is in
    let ds : List ℕ = take n text in
    let size : length ds ≡ n = omega (arith, length-take n text, inside) in
    let written : decimal x.0 ≡ ds = found.written ∙ digits_cut text n all stop in
    let first : get_or (decimal x.0) 0 0 ≡ 48 = ap (λ (l : List ℕ). get_or l 0 0) written ∙ get_or-take n text 0 0 (omega (arith, some)) ∙ zero in
    elim (cases_lt 0 x.0) [
      | inl above ↦ omega (arith, first, first_decimal x.0 above (omega (arith, found.small)))
      | inr none ↦ omega (arith, size, some, ap length (sym written), ap (λ (k : ℕ). length (decimal k)) (let e : x.0 ≡ 0 = omega (arith, none) in e), ap length (decimal_digit 0 (omega arith)))
    ])

pub none_large : (text : List ℕ) (n : ℕ) → AllDigits 10 (take n text) → starts_digit (drop n text) ≡ false → 2 ^ 32 ≤ digits_value 10 (take n text) → number_at text ≡ None
none_large text n all stop large = none_from (number_at text) (λ x is.
    let found = number_of_sound (digits_of text) text x is in
    let value : digits_value 10 (take n text) ≡ x.0 = ap (digits_value 10) (sym (digits_cut text n all stop) ∙ sym found.written) ∙ (decimal_is_IsNumeral x.0 (omega (arith, found.small))).1 in
    omega (arith, value, large, found.small))

-- a number after the bytes before it
pub field_sound : (part text : List ℕ) (x : ℕ × List ℕ) → field_at part text ≡ Some x → (text ≡ part ++ (decimal x.0 ++ x.1)) × (x.0 < 2 ^ 32)
unfolding field_at
field_sound part text x is =
    let s = step (after part text) number_at x is in
    let n = number_sound s.value x s.next in
    (after_sound part text s.value s.was ∙ ap (λ (l : List ℕ). part ++ l) n.0, n.1)

pub field_there : (part : List ℕ) (n : ℕ) (rest : List ℕ) → n < 2 ^ 32 → starts_digit rest ≡ false → field_at part (part ++ (decimal n ++ rest)) ≡ Some (n, rest)
unfolding field_at
field_there part n rest small stop = found_then (after part (part ++ (decimal n ++ rest))) number_at (decimal n ++ rest) _ (after_there part (decimal n ++ rest)) (number_again n rest small stop)

pub ends_sound : (text : List ℕ) → ends text ≡ true → text ≡ 10 ∷ []
ends_sound text is = (bytes_eq-Decides text (10 ∷ [])).0 is

-- the bytes before the number are not there
pub field_absent : (part text : List ℕ) → bytes_eq (take (length part) text) part ≡ false → field_at part text ≡ None
unfolding field_at
field_absent part text other = rw (after_none part text other) refl

-- they are there
pub field_rest : (part text : List ℕ) → bytes_eq (take (length part) text) part ≡ true → field_at part text ≡ number_at (drop (length part) text)
unfolding field_at
field_rest part text same = rw (after_cut part text same) refl
