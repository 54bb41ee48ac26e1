-- Where records stand, one after another, and what is looked up there.
use Rattle.std.proofs.Common.{◌≡◌, ◌∙◌, ◌⊎◌, ℕ, zero, suc, ◌+◌, ◌≤◌, Bool, true, false, List, [], ◌∷◌, ◌++◌, length, drop, Option, None, Some, refl, ap, sym, subst, arith, inl, inr, nat_eq, if◌then◌else◌}
use Rattle.std.specs.Cmp.Lexicographic.{bytes_decides, pointwise}
use Rattle.std.specs.Option.{option_eq, option_map_or}
use Rattle.std.proofs.lemmas.Bool.{cases_Bool, eq-eqb, eqb-true, false≢true, ne_eqb}
use Rattle.std.specs.Prelude.{All}
use Rattle.std.proofs.Math.Seq.{drop-append_seam}
use Rattle.std.proofs.lemmas.List.{drop-drop}
use Rattle.std.proofs.lemmas.List.Elements.{All-head, All-tail}
use Rattle.std.proofs.lemmas.Option.{none-some, same_Some}
use Rattle.cm_store.specs.Stores as stores
use Rattle.cm_store.specs.Stores.{first_bad}
use Rattle.cm_store_records.specs.RecordLaws.{first_back, no_records, record_long, records_next, records_none}
use Rattle.cm_store_records.specs.RecordPass.{IsSmall}
use Rattle.cm_store_records.specs.Records.{Record, bytes_of, first_record, record_bytes, record_size, records_in, value_in}

-- where keys are looked up
abbrev pub Offsets : Type 0
Offsets = List ℕ → Option ℕ

-- an offset is this one
same_option : (o : Option ℕ) (at : ℕ) → option_eq nat_eq o (Some at) ≡ true → o ≡ Some at
same_option None at is = absurd (false≢true is)
same_option (Some o) at is = ap Some (eqb-true o at is)

-- each record is looked up where it stands, the first at the given offset
unfoldable pub AreFound : Offsets → ℕ → List Record → Type 0
AreFound offset at [] = Unit {0}
AreFound offset at (r ∷ rs) = (offset r.key ≡ Some at) × AreFound offset (at + record_size r) rs

-- a record stands at an offset, if the first stands at the given one
unfoldable pub Stands : ℕ → List Record → ℕ → Record → Type 0
Stands at [] o r = ⊥
Stands at (x ∷ rs) o r = ((o ≡ at) × (x ≡ r)) ⊎ Stands (at + record_size x) rs o r

-- it does so no earlier than the first
not_earlier : (at : ℕ) (rs : List Record) (o : ℕ) (r : Record) → Stands at rs o r → at ≤ o
unfolding Stands
not_earlier at [] o r stands = elim stands [ ]
not_earlier at (x ∷ rs) o r (inl here) = omega (arith, here.0)
not_earlier at (x ∷ rs) o r (inr there) = omega (arith, not_earlier (at + record_size x) rs o r there)

-- no record has a key that is looked up earlier, or nowhere
none_there : (offset : Offsets) (at : ℕ) (rs : List Record) (key : List ℕ) → AreFound offset at rs → ((o : ℕ) → at ≤ o → offset key ≡ Some o → ⊥) → value_in rs key ≡ None
unfolding AreFound
none_there offset at [] key found lost = refl
none_there offset at (x ∷ rs) key found lost = elim (cases_Bool (pointwise nat_eq x.key key)) [
  | inl is ↦ absurd (lost at (omega arith) (ap offset (sym ((bytes_decides x.key key).0 is)) ∙ found.0))
  | inr other ↦ rw other (none_there offset (at + record_size x) rs key found.1 (λ o later looked. lost o (omega (arith, later)) looked))
]

-- the value of the record that stands where a key is looked up, if it has this key
pub value_there : (offset : Offsets) (at : ℕ) (rs : List Record) (o : ℕ) (r : Record) (key : List ℕ) → AreFound offset at rs → Stands at rs o r → offset key ≡ Some o → r.key ≡ key → value_in rs key ≡ Some r.value
unfolding AreFound Stands
value_there offset at [] o r key found stands looked same = elim stands [ ]
value_there offset at (x ∷ rs) o r key found (inl here) looked same =
    let is : pointwise nat_eq x.key key ≡ true = (bytes_decides x.key key).1 (ap (λ (y : Record). y.key) here.1 ∙ same) in
    rw is (ap (λ (y : Record). Some y.value) here.1)
value_there offset at (x ∷ rs) o r key found (inr there) looked same = elim (cases_Bool (pointwise nat_eq x.key key)) [
  | inl is ↦
      let at_is : at ≡ o = same_Some at o (sym found.0 ∙ ap offset ((bytes_decides x.key key).0 is) ∙ looked) in
      absurd (omega (arith, at_is, not_earlier (at + record_size x) rs o r there))
  | inr other ↦ rw other (value_there offset (at + record_size x) rs o r key found.1 there looked same)
]

-- if it has another, no record has this key
pub value_none : (offset : Offsets) (at : ℕ) (rs : List Record) (o : ℕ) (r : Record) (key : List ℕ) → AreFound offset at rs → Stands at rs o r → offset key ≡ Some o → (r.key ≡ key → ⊥) → value_in rs key ≡ None
unfolding AreFound Stands
value_none offset at [] o r key found stands looked differs = elim stands [ ]
value_none offset at (x ∷ rs) o r key found (inl here) looked differs = elim (cases_Bool (pointwise nat_eq x.key key)) [
  | inl is ↦ absurd (differs (ap (λ (y : Record). y.key) (sym here.1) ∙ (bytes_decides x.key key).0 is))
  | inr other ↦ rw other (none_there offset (at + record_size x) rs key found.1 (λ p later looked_there.
      let same : p ≡ o = same_Some p o (sym looked_there ∙ looked) in
      omega (arith, later, same, here.0)))
]
value_none offset at (x ∷ rs) o r key found (inr there) looked differs = elim (cases_Bool (pointwise nat_eq x.key key)) [
  | inl is ↦
      let at_is : at ≡ o = same_Some at o (sym found.0 ∙ ap offset ((bytes_decides x.key key).0 is) ∙ looked) in
      absurd (omega (arith, at_is, not_earlier (at + record_size x) rs o r there))
  | inr other ↦ rw other (value_none offset (at + record_size x) rs o r key found.1 there looked differs)
]

-- and none has a key that is looked up nowhere
pub value_nowhere : (offset : Offsets) (at : ℕ) (rs : List Record) (key : List ℕ) → AreFound offset at rs → offset key ≡ None → value_in rs key ≡ None
value_nowhere offset at rs key found nowhere = none_there offset at rs key found (λ o later looked. none-some o (sym nowhere ∙ looked))

-- ---- records in bytes

-- a record that stands at an offset begins there
pub begins_there : (n : ℕ) (bytes : List ℕ) (at o : ℕ) (r : Record) → Stands at (records_in n (drop at bytes)) o r → first_record (drop o bytes) ≡ Some r
unfolding Stands
begins_there zero bytes at o r stands = absurd (subst (λ (rs : List Record). Stands at rs o r) (no_records (drop at bytes)) stands)
begins_there (suc n) bytes at o r stands = go (first_record (drop at bytes)) refl (λ size. begins_there n bytes (at + size) o r) where
  go : (found : Option Record) → first_record (drop at bytes) ≡ found → ((size : ℕ) → Stands (at + size) (records_in n (drop (at + size) bytes)) o r → first_record (drop o bytes) ≡ Some r) → first_record (drop o bytes) ≡ Some r
  go None is later = absurd (subst (λ (rs : List Record). Stands at rs o r) (records_none n (drop at bytes) is) stands)
  go (Some x) is later = either (subst (λ (rs : List Record). Stands at rs o r) (records_next n (drop at bytes) x is) stands) where
    either : Stands at (x ∷ records_in n (drop (record_size x) (drop at bytes))) o r → first_record (drop o bytes) ≡ Some r
    either (inl here) = ap (λ (p : ℕ). first_record (drop p bytes)) here.0 ∙ is ∙ ap Some here.1
    either (inr there) = later (record_size x) (subst (λ (l : List ℕ). Stands (at + record_size x) (records_in n l) o r) (drop-drop (record_size x) at bytes) there)

-- one record more, and what is wrong with the bytes
abbrev step_of : Offsets → ℕ → ℕ → List ℕ → Option Record → Option ℕ
step_of offset at n bytes found = option_map_or (λ r. if option_eq nat_eq (offset r.key) (Some at) then first_bad offset (at + record_size r) n (drop (record_size r) bytes) else Some at) found (Some at)

-- if nothing is, a record comes first that is looked up there, and nothing is wrong with the rest
record IsFine (offset : Offsets) (at n : ℕ) (bytes : List ℕ) : Type 0 where
  first : Record
  is : first_record bytes ≡ Some first
  found : offset first.key ≡ Some at
  rest : first_bad offset (at + record_size first) n (drop (record_size first) bytes) ≡ None

fine_step : (offset : Offsets) (at n : ℕ) (bytes : List ℕ) → step_of offset at n bytes (first_record bytes) ≡ None → IsFine offset at n bytes
fine_step offset at n bytes fine = go (first_record bytes) refl where
  looked : (r : Record) → first_record bytes ≡ Some r → (b : Bool) → option_eq nat_eq (offset r.key) (Some at) ≡ b → (if b then first_bad offset (at + record_size r) n (drop (record_size r) bytes) else Some at) ≡ None → IsFine offset at n bytes
  looked r first true is rest = record { first = r; is = first; found = same_option (offset r.key) at is; rest = rest }
  looked r first false is bad = absurd (none-some at (sym bad))

  go : (found : Option Record) → first_record bytes ≡ found → IsFine offset at n bytes
  go None is = absurd (none-some at (sym fine ∙ ap (step_of offset at n bytes) is))
  go (Some r) is = looked r is (option_eq nat_eq (offset r.key) (Some at)) refl (sym (ap (step_of offset at n bytes) is) ∙ fine)

-- nothing is wrong with bytes only if they are whole records, each looked up where it stands
pub all_found : (offset : Offsets) (at n : ℕ) (bytes : List ℕ) → first_bad offset at n bytes ≡ None → (length (records_in n bytes) ≡ n) × AreFound offset at (records_in n bytes)
unfolding stores.first_bad AreFound
all_found offset at zero bytes fine = (ap length (no_records bytes), rw (no_records bytes) tt)
all_found offset at (suc n) bytes fine =
    let step = fine_step offset at n bytes fine in
    let rest = all_found offset (at + record_size step.first) n (drop (record_size step.first) bytes) step.rest in
    let all = records_next n bytes step.first step.is in
    (omega (arith, ap length all, rest.0), rw all (step.found, rest.1))

-- and if they are
pub none_bad : (offset : Offsets) (at : ℕ) (rs : List Record) → All IsSmall rs → AreFound offset at rs → first_bad offset at (length rs) (bytes_of rs) ≡ None
unfolding stores.first_bad AreFound
none_bad offset at [] small found = refl
none_bad offset at (r ∷ rs) small found =
    let first = first_back r (bytes_of rs) (All-head IsSmall r rs small) in
    let after : drop (record_size r) (record_bytes r ++ bytes_of rs) ≡ bytes_of rs = ap (λ (n : ℕ). drop n (record_bytes r ++ bytes_of rs)) (sym (record_long r)) ∙ drop-append_seam (record_bytes r) (bytes_of rs) in
    let looked : option_eq nat_eq (offset r.key) (Some at) ≡ true = ap (λ (o : Option ℕ). option_eq nat_eq o (Some at)) found.0 ∙ eq-eqb at at refl in
    ap (step_of offset at (length rs) (record_bytes r ++ bytes_of rs)) first ∙ rw (looked, after) (none_bad offset (at + record_size r) rs (All-tail IsSmall r rs small) found.1)

-- ---- one record after another, of bytes that may not be records

-- a record is there, and is looked up there
pub bad_next : (offset : Offsets) (at n : ℕ) (bytes : List ℕ) (r : Record) → first_record bytes ≡ Some r → option_eq nat_eq (offset r.key) (Some at) ≡ true → first_bad offset at (suc n) bytes ≡ first_bad offset (at + record_size r) n (drop (record_size r) bytes)
unfolding stores.first_bad
bad_next offset at n bytes r is looked = ap (step_of offset at n bytes) is ∙ rw looked refl

-- or is looked up elsewhere
pub bad_here : (offset : Offsets) (at n : ℕ) (bytes : List ℕ) (r : Record) → first_record bytes ≡ Some r → option_eq nat_eq (offset r.key) (Some at) ≡ false → first_bad offset at (suc n) bytes ≡ Some at
unfolding stores.first_bad
bad_here offset at n bytes r is elsewhere = ap (step_of offset at n bytes) is ∙ rw elsewhere refl

-- or no whole record is there
pub bad_missing : (offset : Offsets) (at n : ℕ) (bytes : List ℕ) → first_record bytes ≡ None → first_bad offset at (suc n) bytes ≡ Some at
unfolding stores.first_bad
bad_missing offset at n bytes none = ap (step_of offset at n bytes) none

-- no record is left, and no byte, or some
pub bad_end : (offset : Offsets) (at : ℕ) (bytes : List ℕ) → length bytes ≡ 0 → first_bad offset at 0 bytes ≡ None
unfolding stores.first_bad
bad_end offset at bytes none = rw none refl

pub bad_left : (offset : Offsets) (at : ℕ) (bytes : List ℕ) → (length bytes ≡ 0 → ⊥) → first_bad offset at 0 bytes ≡ Some at
unfolding stores.first_bad
bad_left offset at bytes some = rw (ne_eqb (length bytes) 0 some) refl
