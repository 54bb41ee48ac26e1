-- The record with which bytes begin.
use Rattle.std.proofs.Common.{◌≡◌, ◌∙◌, ℕ, ◌+◌, ◌-◌, ◌<◌, ◌≤◌, List, length, take, drop, length-drop, None, Some, refl, ap, sym, arith}
use Rattle.std.specs.Int.{from_le_bytes, w16}
use Rattle.std.proofs.lemmas.Bool.{le-leb, lt-leb}
use Rattle.std.proofs.lemmas.List.{drop-drop}
use Rattle.cm_store_records.specs.Records as records
use Rattle.cm_store_records.specs.Records.{Record, first_record}
use Rattle.cm_store_records.specs.declared.limits.TheConstants.{HEAD_LEN}

-- the lengths of key and value that bytes begin with
pub record HasHead (bytes : List ℕ) (key value : ℕ) : Type 0 where
  pub head : HEAD_LEN ≤ length bytes
  pub key_is : key ≡ from_le_bytes w16 (take 2 bytes)
  pub value_is : value ≡ from_le_bytes w16 (take 2 (drop 2 bytes))

-- it is whole
whole_record : (bytes : List ℕ) (key value : ℕ) → HasHead bytes key value → HEAD_LEN + key + value ≤ length bytes → first_record bytes ≡ Some (record { key = take key (drop HEAD_LEN bytes); value = take value (drop (HEAD_LEN + key) bytes) })
unfolding records.first_record
whole_record bytes key value h whole = rw (le-leb HEAD_LEN (length bytes) h.head, sym h.key_is, sym h.value_is, le-leb (HEAD_LEN + key + value) (length bytes) whole) refl

-- or it isn't
cut_record : (bytes : List ℕ) (key value : ℕ) → HasHead bytes key value → length bytes < HEAD_LEN + key + value → first_record bytes ≡ None
unfolding records.first_record
cut_record bytes key value h short = rw (le-leb HEAD_LEN (length bytes) h.head, sym h.key_is, sym h.value_is, lt-leb (HEAD_LEN + key + value) (length bytes) short) refl

-- or there are too few bytes for the lengths
no_record : (bytes : List ℕ) → length bytes < HEAD_LEN → first_record bytes ≡ None
unfolding records.first_record
no_record bytes short = rw (lt-leb HEAD_LEN (length bytes) short) refl

-- the lengths at an offset
head_at : (bytes : List ℕ) (at key value : ℕ) → at + HEAD_LEN ≤ length bytes → key ≡ from_le_bytes w16 (take 2 (drop at bytes)) → value ≡ from_le_bytes w16 (take 2 (drop (at + 2) bytes)) → HasHead (drop at bytes) key value
head_at bytes at key value inside key_is value_is = record {
  head = omega (arith, length-drop at bytes, inside);
  key_is = key_is;
  value_is = value_is ∙ ap (λ (l : List ℕ). from_le_bytes w16 (take 2 l)) (sym (drop-drop 2 at bytes));
}

-- the record at an offset, whose parts are known by where they begin and end
pub record_there : (bytes : List ℕ) (at key value : ℕ) → at + HEAD_LEN + key + value ≤ length bytes → key ≡ from_le_bytes w16 (take 2 (drop at bytes)) → value ≡ from_le_bytes w16 (take 2 (drop (at + 2) bytes))
    → first_record (drop at bytes) ≡ Some (record { key = take (at + HEAD_LEN + key - (at + HEAD_LEN)) (drop (at + HEAD_LEN) bytes); value = take (at + HEAD_LEN + key + value - (at + HEAD_LEN + key)) (drop (at + HEAD_LEN + key) bytes) })
record_there bytes at key value inside key_is value_is =
    let found = whole_record (drop at bytes) key value (head_at bytes at key value (omega (arith, inside)) key_is value_is) (omega (arith, length-drop at bytes, inside)) in
    let key_len : at + HEAD_LEN + key - (at + HEAD_LEN) ≡ key = omega arith in
    let value_len : at + HEAD_LEN + key + value - (at + HEAD_LEN + key) ≡ value = omega arith in
    let from : at + HEAD_LEN + key ≡ at + (HEAD_LEN + key) = omega arith in
    rw (key_len, value_len, from, sym (drop-drop HEAD_LEN at bytes), sym (drop-drop (HEAD_LEN + key) at bytes)) found

-- no record is there
pub record_cut : (bytes : List ℕ) (at key value : ℕ) → at + HEAD_LEN ≤ length bytes → length bytes < at + HEAD_LEN + key + value → key ≡ from_le_bytes w16 (take 2 (drop at bytes)) → value ≡ from_le_bytes w16 (take 2 (drop (at + 2) bytes)) → first_record (drop at bytes) ≡ None
record_cut bytes at key value head short key_is value_is = cut_record (drop at bytes) key value (head_at bytes at key value head key_is value_is) (omega (arith, length-drop at bytes, short, head))

pub record_none : (bytes : List ℕ) (at : ℕ) → at ≤ length bytes → length bytes - at < HEAD_LEN → first_record (drop at bytes) ≡ None
record_none bytes at inside short = no_record (drop at bytes) (omega (arith, length-drop at bytes, short, inside))
