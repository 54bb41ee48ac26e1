-- Records as bytes, and back.
use Rattle.std.proofs.Common.{◌≡◌, ◌∙◌, ℕ, ◌+◌, List, [], ◌∷◌, ◌++◌, length, take, drop, refl, ap, sym, arith, length-append}
use Rattle.std.specs.List.{flat_map, sum_by}
use Rattle.std.proofs.lemmas.List.{append_cancel_left}
use Rattle.std.proofs.lemmas.List.Elements.{All-head, All-tail}
use Rattle.std.proofs.lemmas.List.Sums.{sum_by-cons}
use Rattle.std.proofs.Math.Seq.{take-append_seam}
use Rattle.byteorder.specs.Endian.{little_bytes, little_number}
use Rattle.byteorder.specs.Numbers.{little_number-reads_back}
use Rattle.cm_spill.specs.Records.{Record, IsShort, IsRecords, encoded, size}
use Rattle.cm_spill.specs.Laid.{first_record}

pub length-encoded : (r : Record) → length (encoded r) ≡ 10 + length r.key
unfolding encoded
length-encoded r = omega arith

pub length-encodings : (records : List Record) → length (flat_map encoded records) ≡ sum_by size records
length-encodings [] = refl
length-encodings (r ∷ rs) = omega (arith, length-append (encoded r) (flat_map encoded rs), length-encoded r, length-encodings rs, sum_by-cons size r rs)

-- the parts of a record's bytes
pub record Parts (r : Record) (bytes rest : List ℕ) : Type 0 where
  pub bucket : little_number 4 bytes ≡ r.bucket
  pub line : little_number 4 (drop 4 bytes) ≡ r.line
  pub len : little_number 2 (drop 8 bytes) ≡ length r.key
  pub key : drop 10 bytes ≡ r.key ++ rest

pub parts_of : (r : Record) (rest : List ℕ) → IsShort r → Parts r (encoded r ++ rest) rest
unfolding encoded
parts_of r rest s = record {
  bucket = little_number-reads_back 4 r.bucket (little_bytes 4 r.line ++ little_bytes 2 (length r.key) ++ r.key ++ rest) s.bucket;
  line = little_number-reads_back 4 r.line (little_bytes 2 (length r.key) ++ r.key ++ rest) s.line;
  len = little_number-reads_back 2 (length r.key) (r.key ++ rest) s.key;
  key = refl;
}

-- the record that was encoded first
pub first_encoded : (r : Record) (rest : List ℕ) → IsShort r → first_record (encoded r ++ rest) ≡ r
unfolding first_record
first_encoded r rest s =
    let p = parts_of r rest s in
    let key : take (little_number 2 (drop 8 (encoded r ++ rest))) (drop 10 (encoded r ++ rest)) ≡ r.key =
    ap (λ (n : ℕ). take n (drop 10 (encoded r ++ rest))) p.len ∙ ap (λ (l : List ℕ). take (length r.key) l) p.key ∙ take-append_seam r.key rest in
    ap (λ (b : ℕ). let x : Record = record { bucket = b; line = little_number 4 (drop 4 (encoded r ++ rest)); key = take (little_number 2 (drop 8 (encoded r ++ rest))) (drop 10 (encoded r ++ rest)) } in x) p.bucket
    ∙ ap (λ (b : ℕ). let x : Record = record { bucket = r.bucket; line = b; key = take (little_number 2 (drop 8 (encoded r ++ rest))) (drop 10 (encoded r ++ rest)) } in x) p.line
    ∙ ap (λ (b : List ℕ). let x : Record = record { bucket = r.bucket; line = r.line; key = b } in x) key

-- Bytes are those of one list of records alone.
pub one_list : (bytes : List ℕ) (xs ys : List Record) → IsRecords bytes xs → IsRecords bytes ys → xs ≡ ys
one_list bytes [] [] a b = refl
one_list bytes [] (y ∷ ys) a b = absurd (omega (arith, ap length a.are, ap length b.are, length-append (encoded y) (flat_map encoded ys), length-encoded y))
one_list bytes (x ∷ xs) [] a b = absurd (omega (arith, ap length a.are, ap length b.are, length-append (encoded x) (flat_map encoded xs), length-encoded x))
one_list bytes (x ∷ xs) (y ∷ ys) a b =
    let both : encoded x ++ flat_map encoded xs ≡ encoded y ++ flat_map encoded ys = sym a.are ∙ b.are in
    let first : x ≡ y = sym (first_encoded x _ (All-head IsShort x xs a.short)) ∙ ap first_record both ∙ first_encoded y _ (All-head IsShort y ys b.short) in
    let rest : flat_map encoded xs ≡ flat_map encoded ys = append_cancel_left (encoded y) _ _ (sym (ap (λ (r : Record). encoded r ++ flat_map encoded xs) first) ∙ both) in
    let later : xs ≡ ys = one_list (flat_map encoded xs) xs ys (record { are = refl; short = All-tail IsShort x xs a.short }) (record { are = rest; short = All-tail IsShort y ys b.short }) in
    ap (λ (r : Record). r ∷ xs) first ∙ ap (λ (l : List Record). y ∷ l) later
