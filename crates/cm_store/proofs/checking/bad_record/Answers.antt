use Rattle.std.proofs.Common.{◌≡◌, ◌∙◌, ℕ, suc, ◌-◌, ◌≤◌, length-drop, drop, length, None, Some, ap, sym, arith}
use Rattle.std.proofs.lemmas.Bool.{eqb-true}
use Rattle.std.proofs.lemmas.List.{nil_from_length}
use Rattle.cm_store.proofs.NumberLemmas.{checked, numbered_below}
use Rattle.cm_store.proofs.Standing.{bad_end, bad_left, bad_missing}
use Rattle.cm_store.proofs.checking.bad_record.Goals as goal
use Rattle.cm_store.specs.Numbers.{astray_of}
use Rattle.cm_store.specs.Stores.{Store, bad_record, first_bad, offset_of}

pub returns-then-is_empty-clause-bad : goal.returns-then-is_empty-clause-bad
returns-then-is_empty-clause-bad c =
    let s : Store = record { index = c.args.index.now; places = c.args.places.now.items.items; bytes = c.args.bytes.now } in
    let l = c.records in
    let items = c.number_some-next.new.some.items in
    let empty = nil_from_length items (eqb-true (length items) 0 (sym c.is_empty.ensures ∙ c.if-is_empty.true)) in
    let some : l.left ≡ suc (l.left - 1) = omega (arith, c.records-test.true) in
    sym (
    l.invariant.rest
    ∙ ap (λ (n : ℕ). first_bad (offset_of s) l.at n (drop l.at s.bytes)) some
    ∙ bad_missing (offset_of s) l.at (l.left - 1) (drop l.at s.bytes) (c.number_some-next.ensures.none empty c.records-test.true)
    )

pub first_astray-requires : goal.first_astray-requires
first_astray-requires c = record {
  below = rw (c.as_slice.ensures.value, c.requires.count) (numbered_below c.args.index.now c.args.bytes.now c.records.at c.number_some-next.result c.number_some-next.new.some.items c.number_some-next.ensures.numbered);
}

-- what is wrong by a record that is looked up elsewhere
bad_there : (c : goal.In-Some) → (bad_record (record { index = c.args.index.now; places = c.args.places.now.items.items; bytes = c.args.bytes.now }) ≡ Some c.in-Some.astray) × (c.in-Some.astray ≤ length c.args.bytes.now)
bad_there c =
    let s : Store = record { index = c.args.index.now; places = c.args.places.now.items.items; bytes = c.args.bytes.now } in
    let l = c.records in
    let some = c.number_some-next in
    let found : astray_of s.places l.at some.new.some.items ≡ Some c.in-Some.astray = ap (astray_of s.places l.at) (sym c.as_slice.ensures.value) ∙ sym c.in-Some.ensures.astray in
    let bad = (checked s l.at l.left some.result some.new.some.items some.ensures.numbered some.ensures.few l.invariant.inside).astray c.in-Some.astray found in
    (l.invariant.rest ∙ bad.0, bad.1)

pub returns-in-Some-clause-bad : goal.returns-in-Some-clause-bad
returns-in-Some-clause-bad c = sym (bad_there c).0

pub returns-in-Some-clause-inside : goal.returns-in-Some-clause-inside
returns-in-Some-clause-inside c = (bad_there c).1

pub records-preserved : goal.records-preserved
records-preserved c =
    let s : Store = record { index = c.args.index.now; places = c.args.places.now.items.items; bytes = c.args.bytes.now } in
    let l = c.records in
    let some = c.number_some-next in
    let none : astray_of s.places l.at some.new.some.items ≡ None = ap (astray_of s.places l.at) (sym c.as_slice.ensures.value) ∙ sym c.in_default.ensures.astray in
    record {
      inside = some.ensures.inside;
      rest =
          l.invariant.rest
          ∙ (checked s l.at l.left some.result some.new.some.items some.ensures.numbered some.ensures.few l.invariant.inside).none none
          ∙ ap (λ (n : ℕ). first_bad (offset_of s) some.result (l.left - n) (drop some.result s.bytes)) (sym c.len.ensures.value);
    }

-- what is known behind the loop
pub returns-then-at-bytes-clause-bad : goal.returns-then-at-bytes-clause-bad
returns-then-at-bytes-clause-bad c =
    let s : Store = record { index = c.args.index.now; places = c.args.places.now.items.items; bytes = c.args.bytes.now } in
    let l = c.records in
    let none_left : l.left ≡ 0 = omega (arith, c.records-test.false) in
    sym (
    l.invariant.rest
    ∙ ap (λ (n : ℕ). first_bad (offset_of s) l.at n (drop l.at s.bytes)) none_left
    ∙ bad_end (offset_of s) l.at (drop l.at s.bytes) (omega (arith, length-drop l.at s.bytes, c.if-at-bytes.true))
    )

pub returns-else-at-bytes-clause-bad : goal.returns-else-at-bytes-clause-bad
returns-else-at-bytes-clause-bad c =
    let s : Store = record { index = c.args.index.now; places = c.args.places.now.items.items; bytes = c.args.bytes.now } in
    let l = c.records in
    let none_left : l.left ≡ 0 = omega (arith, c.records-test.false) in
    sym (
    l.invariant.rest
    ∙ ap (λ (n : ℕ). first_bad (offset_of s) l.at n (drop l.at s.bytes)) none_left
    ∙ bad_left (offset_of s) l.at (drop l.at s.bytes) (λ none. c.if-at-bytes.false (omega (arith, length-drop l.at s.bytes, none, l.invariant.inside)))
    )
