-- Lemmas about records and their bytes, which the proofs of what stores are cite. No contract needs them.
use Rattle.std.proofs.Common.{◌≡◌, ◌∙◌, ℕ, suc, ◌+◌, ◌≤◌, List, [], ◌∷◌, ◌++◌, length, take, drop, length-append, length-drop, length-take, nat_le, if◌then◌else◌, append_assoc, append-nil, Option, None, Some, Bool, true, false, refl, ap, sym, arith}
use Rattle.std.specs.Prelude.{All}
use Rattle.std.specs.Int.{from_le_bytes, w16}
use Rattle.std.proofs.Math.Seq.{drop-append_seam, take-append_seam}
use Rattle.std.proofs.lemmas.Bool.{le-leb, leb-true}
use Rattle.std.proofs.lemmas.Grind.{flat_map-append}
use Rattle.std.proofs.lemmas.List.{drop-drop}
use Rattle.std.proofs.lemmas.List.Elements.{All-head, All-tail}
use Rattle.std.proofs.lemmas.Nat.{from_le_bytes-to_le_bytes_2}
use Rattle.std.proofs.lemmas.Option.{none-some, same_Some}
use Rattle.cm_store_records.specs.RecordPass.{IsSmall}
use Rattle.cm_store_records.specs.Records as records
use Rattle.cm_store_records.specs.Records.{Record, bytes_of, first_record, record_bytes, record_size, record_with, records_in}
use Rattle.cm_store_records.specs.declared.limits.TheConstants.{HEAD_LEN}

-- a record has as many bytes as its size says
pub record_long : (r : Record) → length (record_bytes r) ≡ record_size r
record_long r = omega (arith, length-append r.key r.value)

-- its key and its value stand after the lengths
with_back : (r : Record) (bytes rest : List ℕ) → drop HEAD_LEN bytes ≡ (r.key ++ r.value) ++ rest → HEAD_LEN ≤ length bytes → record_with (length r.key) (length r.value) bytes ≡ Some r
with_back r bytes rest body head =
    let parts : drop HEAD_LEN bytes ≡ r.key ++ (r.value ++ rest) = body ∙ append_assoc r.key r.value rest in
    let enough : HEAD_LEN + length r.key + length r.value ≤ length bytes =
    omega (arith, head, length-drop HEAD_LEN bytes, ap length parts, length-append r.key (r.value ++ rest), length-append r.value rest) in
    let key_is : take (length r.key) (drop HEAD_LEN bytes) ≡ r.key = ap (take (length r.key)) parts ∙ take-append_seam r.key (r.value ++ rest) in
    let value_is : take (length r.value) (drop (HEAD_LEN + length r.key) bytes) ≡ r.value =
    ap (take (length r.value)) (sym (drop-drop (length r.key) HEAD_LEN bytes) ∙ ap (drop (length r.key)) parts ∙ drop-append_seam r.key (r.value ++ rest)) ∙ take-append_seam r.value rest in
    rw (le-leb (HEAD_LEN + length r.key + length r.value) (length bytes) enough, key_is, value_is) refl

-- the bytes of records, and of one more
pub bytes_more : (rs : List Record) (r : Record) → bytes_of rs ++ record_bytes r ≡ bytes_of (rs ++ r ∷ [])
bytes_more rs r = ap (λ (l : List ℕ). bytes_of rs ++ l) (sym (append-nil (record_bytes r))) ∙ sym (flat_map-append record_bytes rs (r ∷ []))

-- a record stands at the start of its bytes, whatever follows
pub first_back : (r : Record) (rest : List ℕ) → IsSmall r → first_record (record_bytes r ++ rest) ≡ Some r
unfolding records.first_record
first_back r rest small =
    let bytes = record_bytes r ++ rest in
    let head : HEAD_LEN ≤ length bytes = omega (arith, length-append (record_bytes r) rest, record_long r) in
    rw (le-leb HEAD_LEN (length bytes) head, from_le_bytes-to_le_bytes_2 (length r.key) small.0, from_le_bytes-to_le_bytes_2 (length r.value) small.1) (with_back r bytes rest refl head)

-- the records of bytes that begin with a whole one
pub records_next : (n : ℕ) (bytes : List ℕ) (r : Record) → first_record bytes ≡ Some r → records_in (suc n) bytes ≡ r ∷ records_in n (drop (record_size r) bytes)
unfolding records.records_in
records_next n bytes r is = rw is refl

-- and of others
pub records_none : (n : ℕ) (bytes : List ℕ) → first_record bytes ≡ None → records_in (suc n) bytes ≡ []
unfolding records.records_in
records_none n bytes is = rw is refl

pub no_records : (bytes : List ℕ) → records_in 0 bytes ≡ []
unfolding records.records_in
no_records bytes = refl

-- the records of the bytes of records, whatever follows
pub records_back : (rs : List Record) (rest : List ℕ) → All IsSmall rs → records_in (length rs) (bytes_of rs ++ rest) ≡ rs
records_back [] rest small = no_records rest
records_back (r ∷ rs) rest small =
    let later = bytes_of rs ++ rest in
    let all : bytes_of (r ∷ rs) ++ rest ≡ record_bytes r ++ later = append_assoc (record_bytes r) (bytes_of rs) rest in
    let after : drop (record_size r) (record_bytes r ++ later) ≡ later = ap (λ (n : ℕ). drop n (record_bytes r ++ later)) (sym (record_long r)) ∙ drop-append_seam (record_bytes r) later in
    ap (records_in (suc (length rs))) all
    ∙ records_next (length rs) (record_bytes r ++ later) r (first_back r later (All-head IsSmall r rs small))
    ∙ ap (λ (l : List ℕ). r ∷ records_in (length rs) l) after
    ∙ ap (λ (l : List Record). r ∷ l) (records_back rs rest (All-tail IsSmall r rs small))

-- the same without bytes after them
pub records_all : (rs : List Record) → All IsSmall rs → records_in (length rs) (bytes_of rs) ≡ rs
records_all rs small = ap (records_in (length rs)) (sym (append-nil (bytes_of rs))) ∙ records_back rs [] small

-- A whole record comes first of one more record than these, and then these.
pub record HasFirst (n : ℕ) (bytes : List ℕ) : Type 0 where
  pub first : Record
  pub is : first_record bytes ≡ Some first
  pub rest : length (records_in n (drop (record_size first) bytes)) ≡ n
  pub all : records_in (suc n) bytes ≡ first ∷ records_in n (drop (record_size first) bytes)

pub has_first : (n : ℕ) (bytes : List ℕ) → length (records_in (suc n) bytes) ≡ suc n → HasFirst n bytes
has_first n bytes long = go (first_record bytes) refl where
  go : (o : Option Record) → first_record bytes ≡ o → HasFirst n bytes
  go None is = absurd (omega (arith, long, ap length (records_none n bytes is)))
  go (Some r) is = let all = records_next n bytes r is in record { first = r; is = is; rest = omega (arith, long, ap length all); all = all }

-- the first record doesn't pass the end
pub first_inside : (bytes : List ℕ) (r : Record) → first_record bytes ≡ Some r → record_size r ≤ length bytes
unfolding records.first_record
first_inside bytes r is = outer (nat_le HEAD_LEN (length bytes)) refl is where
  key : ℕ
  key = from_le_bytes w16 (take 2 bytes)

  value : ℕ
  value = from_le_bytes w16 (take 2 (drop 2 bytes))

  inner : (b : Bool) → nat_le (HEAD_LEN + key + value) (length bytes) ≡ b → (if b then Some (let x : Record = record { key = take key (drop HEAD_LEN bytes); value = take value (drop (HEAD_LEN + key) bytes) } in x) else None) ≡ Some r → record_size r ≤ length bytes
  inner false other given = absurd (none-some _ given)
  inner true fits given =
      let same = same_Some _ r given in
      omega (arith, leb-true (HEAD_LEN + key + value) (length bytes) fits, ap (λ (x : Record). length x.key) same, ap (λ (x : Record). length x.value) same, length-take key (drop HEAD_LEN bytes), length-take value (drop (HEAD_LEN + key) bytes))

  outer : (b : Bool) → nat_le HEAD_LEN (length bytes) ≡ b → (if b then record_with key value bytes else None) ≡ Some r → record_size r ≤ length bytes
  outer false other given = absurd (none-some _ given)
  outer true head given = inner (nat_le (HEAD_LEN + key + value) (length bytes)) refl given
