-- The lines that were read so far, as records.
use Rattle.std.proofs.Common.{◌≡◌, ◌∙◌, ℕ, ◌+◌, ◌<◌, ◌≤◌, List, [], ◌∷◌, ◌++◌, length, map, take, drop, length-append, refl, ap, sym, subst, arith, Option, None, Some, Err}
use Rattle.std.proofs.lemmas.Bool.{le-ltb, lt-ltb}
use Rattle.std.specs.Prelude.{All}
use Rattle.std.proofs.lemmas.List.{map-append, take_all}
use Rattle.std.proofs.lemmas.List.Elements.{All-append, All-cons, All-nil}
use Rattle.cm_io.specs.Passes.{Ends, GivesKey, Told}
use Rattle.cm_io.specs.declared.key_pass.KeyFault.{KeyFault}
use Rattle.cm_io.specs.declared.key_pass.KeyFault.TheVariants.{Read, TooLong, TooMany}
use Rattle.cm_store_records.proofs.PassLemmas.{gave_next}
use Rattle.cm_store_records.specs.RecordLaws.{bytes_more, record_long}
use Rattle.cm_store_records.specs.Reads.{FailsReading, HoldsLines, RecordBytes}
use Rattle.cm_store_records.specs.declared.read.ReadFault.TheVariants.{Key}
use Rattle.cm_store_records.specs.RecordPass.{IsSmall}
use Rattle.cm_store_records.specs.Records.{Record, bytes_of, first_large, record_bytes, record_of, record_size, records_of_lines}
use Rattle.cm_store_records.specs.declared.limits.TheConstants.{MAX_RECORD_BYTES}

-- These are the records of the first of known lines, and the others are left.
pub record HoldsFirst (told : Told) (place : ℕ) (records : RecordBytes) : Type 0 where
  pub bytes_are : records.bytes ≡ bytes_of (records_of_lines (take place told.keys))
  pub lines_are : records.lines ≡ map (λ line. line.0) (take place told.keys)
  pub fit : first_large 0 told.keys ≡ first_large (length records.bytes) (drop place told.keys)
  pub small : All IsSmall (records_of_lines (take place told.keys))

pub holds_start : (told : Told) (place : ℕ) (records : RecordBytes) → place ≡ 0 → records ≡ (let r : RecordBytes = record { bytes = []; lines = [] } in r) → HoldsFirst told place records
holds_start told place records start none = rw (start, none) (record { bytes_are = refl; lines_are = refl; fit = refl; small = All-nil IsSmall })

-- a line is next
next_lines : (keys : List (ℕ × List ℕ)) (place now : ℕ) (line : ℕ × List ℕ) → drop place keys ≡ line ∷ drop now keys → now ≡ place + 1 → take now keys ≡ take place keys ++ line ∷ []
next_lines keys place now line next up = rw up (sym (gave_next keys (take place keys) place line refl (next ∙ ap (λ (n : ℕ). line ∷ drop n keys) up)))

-- the limit, with the next record
large_next : (before line : ℕ) (text : List ℕ) (lines : List (ℕ × List ℕ)) → before + record_size (record_of text) ≤ MAX_RECORD_BYTES → first_large before ((line, text) ∷ lines) ≡ first_large (before + record_size (record_of text)) lines
large_next before line text lines fits = rw (le-ltb MAX_RECORD_BYTES (before + record_size (record_of text)) fits) refl

large_now : (before line : ℕ) (text : List ℕ) (lines : List (ℕ × List ℕ)) → MAX_RECORD_BYTES < before + record_size (record_of text) → first_large before ((line, text) ∷ lines) ≡ Some line
large_now before line text lines large = rw (lt-ltb MAX_RECORD_BYTES (before + record_size (record_of text)) large) refl

-- its record fits
pub holds_next : (told : Told) (place now line : ℕ) (text : List ℕ) (old new : RecordBytes) → HoldsFirst told place old → drop place told.keys ≡ (line, text) ∷ drop now told.keys → now ≡ place + 1 → length old.bytes + record_size (record_of text) ≤ MAX_RECORD_BYTES → IsSmall (record_of text)
    → new.bytes ≡ old.bytes ++ record_bytes (record_of text) → new.lines ≡ old.lines ++ line ∷ [] → HoldsFirst told now new
holds_next told place now line text old new holds next up fits small bytes lines =
    let first = take place told.keys in
    let r = record_of text in
    let all : take now told.keys ≡ first ++ (line, text) ∷ [] = next_lines told.keys place now (line, text) next up in
    let long : length new.bytes ≡ length old.bytes + record_size r = omega (arith, ap length bytes, length-append old.bytes (record_bytes r), record_long r) in
    record {
      bytes_are =
          bytes ∙ ap (λ (l : List ℕ). l ++ record_bytes r) holds.bytes_are ∙ bytes_more (records_of_lines first) r
          ∙ ap bytes_of (sym (map-append (λ (k : ℕ × List ℕ). record_of k.1) first ((line, text) ∷ []))) ∙ ap (λ (l : List (ℕ × List ℕ)). bytes_of (records_of_lines l)) (sym all);
      lines_are = lines ∙ ap (λ (l : List ℕ). l ++ line ∷ []) holds.lines_are ∙ sym (map-append (λ (k : ℕ × List ℕ). k.0) first ((line, text) ∷ [])) ∙ ap (map (λ (k : ℕ × List ℕ). k.0)) (sym all);
      fit = holds.fit ∙ ap (first_large (length old.bytes)) next ∙ large_next (length old.bytes) line text (drop now told.keys) fits ∙ ap (λ (n : ℕ). first_large n (drop now told.keys)) (sym long);
      small =
          subst (λ (l : List (ℕ × List ℕ)). All IsSmall (records_of_lines l)) (sym all) (
          subst (All IsSmall) (sym (map-append (λ (k : ℕ × List ℕ). record_of k.1) first ((line, text) ∷ []))) (
          All-append IsSmall (records_of_lines first) (r ∷ []) holds.small (All-cons IsSmall r [] small (All-nil IsSmall))));
    }

-- or it doesn't
pub too_large : (told : Told) (place now line : ℕ) (text : List ℕ) (records : RecordBytes) → HoldsFirst told place records → drop place told.keys ≡ (line, text) ∷ drop now told.keys → MAX_RECORD_BYTES < length records.bytes + record_size (record_of text) → first_large 0 told.keys ≡ Some line
too_large told place now line text records holds next large = holds.fit ∙ ap (first_large (length records.bytes)) next ∙ large_now (length records.bytes) line text (drop now told.keys) large

-- no line is left, and so none was too large
pub all_fit : (told : Told) (place : ℕ) (records : RecordBytes) (fault : Option KeyFault) → HoldsFirst told place records → Ends told place fault → first_large 0 told.keys ≡ None
all_fit told place records fault holds ends = holds.fit ∙ ap (first_large (length records.bytes)) ends.none_left

pub holds_all : (told : Told) (place : ℕ) (records : RecordBytes) → HoldsFirst told place records → Ends told place None → HoldsLines told records
holds_all told place records holds ends =
    let all : take place told.keys ≡ told.keys = take_all place told.keys (omega (arith, ends.all)) in
    record {
      bytes_are = holds.bytes_are ∙ ap (λ (l : List (ℕ × List ℕ)). bytes_of (records_of_lines l)) all;
      lines_are = holds.lines_are ∙ ap (map (λ (k : ℕ × List ℕ). k.0)) all;
      fit = all_fit told place records None holds ends;
      small = subst (λ (l : List (ℕ × List ℕ)). All IsSmall (records_of_lines l)) all holds.small;
      no_fault = ends.fault_is;
    }

-- the pass failed
pub key_fails : (told : Told) (place now line : ℕ) (text : List ℕ) (records : RecordBytes) (fault : KeyFault) → HoldsFirst told place records → GivesKey told place now line text (Err fault) → FailsReading told (Key fault)
key_fails told place now line text records Read holds ends = tt
key_fails told place now line text records (TooLong at) holds ends = (all_fit told place records (Some (TooLong at)) holds ends, ends.fault_is)
key_fails told place now line text records TooMany holds ends = (all_fit told place records (Some TooMany) holds ends, ends.fault_is)

-- the next record, as it is added
pub holds_added : (told : Told) (place now line : ℕ) (text : List ℕ) (r : Record) (old new : RecordBytes) → r ≡ record_of text → HoldsFirst told place old → drop place told.keys ≡ (line, text) ∷ drop now told.keys → now ≡ place + 1 → length old.bytes + record_size r ≤ MAX_RECORD_BYTES → IsSmall r
    → new.bytes ≡ old.bytes ++ record_bytes r → new.lines ≡ old.lines ++ line ∷ [] → HoldsFirst told now new
holds_added told place now line text r old new is holds next up fits small bytes lines =
    holds_next told place now line text old new holds next up (subst (λ (x : Record). length old.bytes + record_size x ≤ MAX_RECORD_BYTES) is fits) (subst IsSmall is small) (bytes ∙ ap (λ (x : Record). old.bytes ++ record_bytes x) is) lines
