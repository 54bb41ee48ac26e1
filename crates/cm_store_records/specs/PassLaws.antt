-- Lemmas about the pass over the keys of records, one record after another, which the proofs of what stores are cite. No contract needs
-- them.
use Rattle.std.proofs.Common.{◌≡◌, ◌∙◌, ℕ, zero, suc, ◌+◌, ◌-◌, ◌<◌, ◌≤◌, List, [], ◌∷◌, ◌++◌, length, map, take, drop, get_or, length-drop, None, Some, refl, ap, sym, arith}
use Rattle.std.specs.List.{zip}
use Rattle.std.proofs.lemmas.List.{drop-drop, drop-map, drop_more, get_or-drop, get_or-map, length-map, take_more}
use Rattle.std.proofs.lemmas.Option.{none-some}
use Rattle.std.proofs.lemmas.Slice.Zip.{firsts-zip, get_or-zip, length-zip}
use Rattle.cm_io.specs.Passes.{Told}
use Rattle.cm_spec.specs.Built.{key_at}
use Rattle.cm_store_records.specs.RecordLaws.{first_inside, has_first, records_all, records_next}
use Rattle.cm_store_records.specs.Reads.{HoldsLines, RecordBytes}
use Rattle.cm_store_records.specs.RecordPass.{AreRecords, IsRecordPass, keyed, line_before}
use Rattle.cm_store_records.specs.Records.{Record, first_record, keys_of_lines, record_of, record_size, records_in, records_of_lines}

drop-zip : {A B : Type 0} (n : ℕ) (xs : List A) (ys : List B) → drop n (zip xs ys) ≡ zip (drop n xs) (drop n ys)
drop-zip zero xs ys = refl
drop-zip (suc n) [] ys = refl
drop-zip (suc n) (x ∷ xs) [] = no_more (drop n xs) where
  no_more : {A B : Type 0} (xs : List A) → (let none : List (A × B) = [] in none) ≡ zip xs []
  no_more [] = refl
  no_more (x ∷ xs) = refl
drop-zip (suc n) (x ∷ xs) (y ∷ ys) = drop-zip n xs ys

-- there is a key for each line
pub keyed_long : (lines bytes : List ℕ) → AreRecords lines bytes → length (keyed lines bytes) ≡ length lines
keyed_long lines bytes are =
    let keys = map (λ (r : Record). r.key) (records_in (length lines) bytes) in
    omega (arith, length-zip lines keys, length-map (records_in (length lines) bytes) (λ (r : Record). r.key), are.whole)

-- of these lines
pub keyed_lines : (lines bytes : List ℕ) → AreRecords lines bytes → map (λ (key : ℕ × List ℕ). key.0) (keyed lines bytes) ≡ lines
keyed_lines lines bytes are = firsts-zip lines (map (λ (r : Record). r.key) (records_in (length lines) bytes)) (length-map (records_in (length lines) bytes) (λ (r : Record). r.key) ∙ are.whole)

-- the line of the next record
pub line_next : (lines : List ℕ) (given : ℕ) → get_or lines given 0 ≡ line_before lines (given + 1)
line_next lines given =
    let up : given + 1 ≡ suc given = omega arith in
    ap (λ (n : ℕ). get_or (0 ∷ lines) n 0) (sym up)

-- the next of a list
pub there_next : {A : Type 0} (xs : List A) (i : ℕ) (x d : A) → drop i xs ≡ x ∷ drop (i + 1) xs → get_or xs i d ≡ x
there_next xs i x d next =
    let same : i ≡ i + 0 = omega arith in
    ap (λ (n : ℕ). get_or xs n d) same ∙ sym (get_or-drop i xs 0 d) ∙ ap (λ (l : List _). get_or l 0 d) next

-- the first of a list, with the next
pub take_next : {A : Type 0} (xs : List A) (i : ℕ) (x : A) → drop i xs ≡ x ∷ drop (i + 1) xs → take i xs ++ x ∷ [] ≡ take (i + 1) xs
take_next xs i x next =
    let more : i < length xs = omega (arith, length-drop i xs, ap length next) in
    ap (λ (y : _). take i xs ++ y ∷ []) (sym (there_next xs i x x next)) ∙ sym (take_more xs i x more)

-- The next record of a pass, which stands at its offset, and the pass behind it.
pub record HasNext (lines bytes : List ℕ) (given at : ℕ) (r : Record) : Type 0 where
  pub record_is : drop given (records_in (length lines) bytes) ≡ r ∷ drop (given + 1) (records_in (length lines) bytes)
  pub gives : drop given (keyed lines bytes) ≡ (line_before lines (given + 1), r.key) ∷ drop (given + 1) (keyed lines bytes)
  pub later : IsRecordPass lines bytes (given + 1) (at + record_size r)

-- there is one
pub has_record : (lines bytes : List ℕ) (given at : ℕ) → IsRecordPass lines bytes given at → given < length lines → first_record (drop at bytes) ≡ None → ⊥
has_record lines bytes given at pass more none =
    let left : length lines - given ≡ suc (length lines - (given + 1)) = omega (arith, more) in
    let long : length (records_in (suc (length lines - (given + 1))) (drop at bytes)) ≡ suc (length lines - (given + 1)) =
    ap (λ (n : ℕ). length (records_in n (drop at bytes))) (sym left) ∙ ap length pass.next ∙ omega (arith, more, length-drop given (records_in (length lines) bytes), pass.records.whole) in
    let first = has_first (length lines - (given + 1)) (drop at bytes) long in
    absurd (none-some first.first (sym none ∙ first.is))

pub next_record : (lines bytes : List ℕ) (given at : ℕ) (r : Record) → IsRecordPass lines bytes given at → given < length lines → first_record (drop at bytes) ≡ Some r → HasNext lines bytes given at r
next_record lines bytes given at r pass more is =
    let rs = records_in (length lines) bytes in
    let key = λ (r : Record). r.key in
    let left : length lines - given ≡ suc (length lines - (given + 1)) = omega (arith, more) in
    let later = records_in (length lines - (given + 1)) (drop (record_size r) (drop at bytes)) in
    let next : drop given rs ≡ r ∷ later = sym pass.next ∙ ap (λ (n : ℕ). records_in n (drop at bytes)) left ∙ records_next (length lines - (given + 1)) (drop at bytes) r is in
    let rest : drop (given + 1) rs ≡ later = sym (drop-drop 1 given rs) ∙ ap (drop 1) next in
    let inside : record_size r ≤ length (drop at bytes) = first_inside (drop at bytes) r is in
    record {
      record_is = next ∙ ap (λ (l : List Record). r ∷ l) (sym rest);
      gives =
          drop-zip given lines (map key rs)
          ∙ ap (λ (l : List ℕ). zip l (drop given (map key rs))) (drop_more lines given 0 more)
          ∙ ap (λ (l : List (List ℕ)). zip (get_or lines given 0 ∷ drop (given + 1) lines) l) (drop-map key given rs ∙ ap (map key) next)
          ∙ ap (λ (l : List (List ℕ)). (get_or lines given 0, r.key) ∷ zip (drop (given + 1) lines) l) (ap (map key) (sym rest) ∙ sym (drop-map key (given + 1) rs))
          ∙ ap (λ (l : List (ℕ × List ℕ)). (get_or lines given 0, r.key) ∷ l) (sym (drop-zip (given + 1) lines (map key rs)))
          ∙ ap (λ (n : ℕ). (n, r.key) ∷ drop (given + 1) (keyed lines bytes)) (line_next lines given);
      later = record {
        records = pass.records;
        within = omega (arith, more);
        inside = omega (arith, inside, length-drop at bytes, pass.inside);
        next = ap (records_in (length lines - (given + 1))) (sym (drop-drop (record_size r) at bytes)) ∙ sym rest;
      };
    }

-- a pass at its start
pub pass_start : (lines bytes : List ℕ) → AreRecords lines bytes → IsRecordPass lines bytes 0 0
pass_start lines bytes are = record { records = are; within = omega arith; inside = omega arith; next = ap (λ (n : ℕ). records_in n bytes) (let all : length lines - 0 ≡ length lines = omega arith in all) }

-- the key of a record, among the keys with their lines
pub key_of : (lines bytes : List ℕ) (i : ℕ) (d : Record) → AreRecords lines bytes → i < length lines → key_at (keyed lines bytes) i ≡ (get_or (records_in (length lines) bytes) i d).key
key_of lines bytes i d are low =
    let rs = records_in (length lines) bytes in
    let key = λ (r : Record). r.key in
    let none : ℕ × List ℕ = (0, []) in
    let inside : i < length (map key rs) = omega (arith, low, length-map rs key, are.whole) in
    ap (λ (k : ℕ × List ℕ). k.1) (get_or-zip lines (map key rs) i none low inside) ∙ get_or-map key rs i d [] (omega (arith, low, are.whole))

-- the bytes of some records aren't empty
pub some_bytes : (lines bytes : List ℕ) → AreRecords lines bytes → 0 < length lines → 0 < length bytes
some_bytes lines bytes are some =
    let more : length lines ≡ suc (length lines - 1) = omega (arith, some) in
    let first = has_first (length lines - 1) bytes (ap (λ (n : ℕ). length (records_in n bytes)) (sym more) ∙ are.whole ∙ more) in
    omega (arith, first_inside bytes first.first first.is)

-- ---- records that were read from lines

-- their keys with their lines
zip_of : (lines : List (ℕ × List ℕ)) → zip (map (λ (k : ℕ × List ℕ). k.0) lines) (map (λ (r : Record). r.key) (records_of_lines lines)) ≡ keys_of_lines lines
zip_of [] = refl
zip_of (line ∷ lines) = ap (λ (l : List (ℕ × List ℕ)). (line.0, (record_of line.1).key) ∷ l) (zip_of lines)

pub record AreReadFrom (lines : List (ℕ × List ℕ)) (records : RecordBytes) : Type 0 where
  pub records_are : records_in (length records.lines) records.bytes ≡ records_of_lines lines
  pub keys_are : keyed records.lines records.bytes ≡ keys_of_lines lines

pub read_from : (told : Told) (records : RecordBytes) → HoldsLines told records → AreReadFrom told.keys records
read_from told records holds =
    let lines = told.keys in
    let many : length records.lines ≡ length (records_of_lines lines) = omega (arith, ap length holds.lines_are, length-map lines (λ (k : ℕ × List ℕ). k.0), length-map lines (λ (k : ℕ × List ℕ). record_of k.1)) in
    let all : records_in (length records.lines) records.bytes ≡ records_of_lines lines = rw (many, holds.bytes_are) (records_all (records_of_lines lines) holds.small) in
    record {
      records_are = all;
      keys_are = ap (λ (rs : List Record). zip records.lines (map (λ (r : Record). r.key) rs)) all ∙ ap (λ (ls : List ℕ). zip ls (map (λ (r : Record). r.key) (records_of_lines lines))) holds.lines_are ∙ zip_of lines;
    }
