-- What is looked up in a store.
use Rattle.std.proofs.Common.{◌≡◌, ◌∙◌, ℕ, ◌<◌, List, length, drop, Option, None, Some, refl, ap, sym, subst, arith}
use Rattle.std.specs.Prelude.{slice_index, IfSome}
use Rattle.std.specs.Option.{option_and_then}
use Rattle.std.proofs.lemmas.Bool.{lt-ltb}
use Rattle.cm_bdz.specs.Functions.{bdz_answer}
use Rattle.cm_store.proofs.AllPlaces.{all_stand, stands_by}
use Rattle.cm_store.proofs.Standing.{all_found, begins_there, value_none, value_nowhere, value_there}
use Rattle.cm_store.specs.Stores.{IsStore, Store, look, offset_of, place_at, records_of}
use Rattle.cm_store_records.specs.Records.{Record, first_record}

-- A record begins where a key with this number is looked up. If it has the key, its value is that of the key, and else no record has it.
pub record HasRecord (s : Store) (v : ℕ) (key : List ℕ) : Type 0 where
  pub at : ℕ
  pub at_is : slice_index s.places v ≡ at
  pub inside : at < length s.bytes
  pub begins : Record
  pub is : first_record (drop at s.bytes) ≡ Some begins
  pub same : begins.key ≡ key → look s key ≡ Some begins.value
  pub other : (begins.key ≡ key → ⊥) → look s key ≡ None

-- there is one for each number
pub has_record : (s : Store) (v : ℕ) (key : List ℕ) → IsStore s → bdz_answer s.index key ≡ Some v → v < s.index.keys → HasRecord s v key
has_record s v key is answer small =
    let found = all_found (offset_of s) 0 s.index.keys s.bytes is.sound in
    let inside : v < length s.places = omega (arith, small, is.places) in
    let there = all_stand (bdz_answer s.index) s.places (records_of s) v found.1 (found.0 ∙ sym is.places) inside in
    let stands = stands_by (bdz_answer s.index) s.places 0 v (records_of s) found.1 there in
    let looked : offset_of s key ≡ Some (slice_index s.places v) = rw (answer, lt-ltb v (length s.places) inside) refl in
    record {
      at = slice_index s.places v;
      at_is = refl;
      inside = is.below v inside;
      begins = stands.0;
      is = begins_there s.index.keys s.bytes 0 (slice_index s.places v) stands.0 stands.1;
      same = λ same. value_there (offset_of s) 0 (records_of s) (slice_index s.places v) stands.0 key found.1 stands.1 looked same;
      other = λ other. value_none (offset_of s) 0 (records_of s) (slice_index s.places v) stands.0 key found.1 stands.1 looked other;
    }

-- a key without a number has no record
pub has_none : (s : Store) (key : List ℕ) → IsStore s → bdz_answer s.index key ≡ None → look s key ≡ None
has_none s key is answer =
    let found = all_found (offset_of s) 0 s.index.keys s.bytes is.sound in
    value_nowhere (offset_of s) 0 (records_of s) key found.1 (ap (λ (o : Option ℕ). option_and_then (place_at s.places) o) answer)

-- What was read where a key with a number is looked up.
pub record IsRead (s : Store) (key : List ℕ) (at : ℕ) : Type 0 where
  pub begins : Record
  pub is : first_record (drop at s.bytes) ≡ Some begins
  pub same : begins.key ≡ key → look s key ≡ Some begins.value
  pub other : (begins.key ≡ key → ⊥) → look s key ≡ None

-- a store by its view, and the number of a key
pub read_by : (s seen : Store) (number : Option ℕ) (v : ℕ) (key : List ℕ) (at : ℕ) → s ≡ seen → IsStore s → number ≡ Some v → number ≡ bdz_answer seen.index key → IfSome number (λ v. v < seen.index.keys) → at ≡ slice_index s.places v → IsRead s key at
read_by s seen number v key at view is given answer inside at_is =
    let found = has_record s v key is (ap (λ (x : Store). bdz_answer x.index key) view ∙ sym answer ∙ given) (rw view (subst (λ (o : Option ℕ). IfSome o (λ v. v < seen.index.keys)) given inside)) in
    record { begins = found.begins; is = ap (λ (p : ℕ). first_record (drop p s.bytes)) (at_is ∙ found.at_is) ∙ found.is; same = found.same; other = found.other }

pub none_by : (s seen : Store) (number : Option ℕ) (key : List ℕ) → s ≡ seen → IsStore s → number ≡ None → number ≡ bdz_answer seen.index key → look seen key ≡ None
none_by s seen number key view is given answer = ap (λ (x : Store). look x key) (sym view) ∙ has_none s key is (ap (λ (x : Store). bdz_answer x.index key) view ∙ sym answer ∙ given)
