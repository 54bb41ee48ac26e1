-- The pass over the keys of records, as its model shows it.
use Rattle.std.proofs.Common.{◌≡◌, ◌∙◌, ℕ, ◌+◌, ◌<◌, List, [], ◌∷◌, ◌++◌, length, take, drop, get_or, None, Some, ap, sym, arith}
use Rattle.std.specs.Prelude.{slice_index_or}
use Rattle.std.proofs.Math.Seq.{drop-length}
use Rattle.std.proofs.lemmas.List.{get_or-drop}
use Rattle.std.proofs.lemmas.Option.{same_Some}
use Rattle.cm_io.specs.Passes.{Ends, Told}
use Rattle.cm_store_records.specs.PassLaws.{keyed_long, next_record, take_next}
use Rattle.cm_store_records.specs.RecordPass.{AreRecords, IsRecordPass, RecordPass, keyed, line_before}
use Rattle.cm_store_records.specs.Records.{Record, first_record}

-- what the pass yields next, as its model shows it
pub gives_next : (lines bytes : List ℕ) (given at : ℕ) (r : Record) → IsRecordPass lines bytes given at → given < length lines → first_record (drop at bytes) ≡ Some r → (line : ℕ) (key : List ℕ) → line ≡ line_before lines (given + 1) → key ≡ r.key
    → drop given (keyed lines bytes) ≡ (line, key) ∷ drop (given + 1) (keyed lines bytes)
gives_next lines bytes given at r pass more is line key line_is key_is = rw (line_is, key_is) (next_record lines bytes given at r pass more is).gives

-- the next key stands there
pub stands_next : (lines bytes : List ℕ) (given at : ℕ) (r : Record) → IsRecordPass lines bytes given at → given < length lines → first_record (drop at bytes) ≡ Some r → r.key ≡ (slice_index_or (keyed lines bytes) given (0, [])).1
stands_next lines bytes given at r pass more is =
    let none : ℕ × List ℕ = (0, []) in
    let next = (next_record lines bytes given at r pass more is).gives in
    let same : given + 0 ≡ given = omega arith in
    ap (λ (l : List (ℕ × List ℕ)). (get_or l 0 none).1) (sym next) ∙ ap (λ (k : ℕ × List ℕ). k.1) (get_or-drop given (keyed lines bytes) 0 none ∙ ap (λ (n : ℕ). get_or (keyed lines bytes) n none) same)

-- the keys that were given, with the next
pub gave_next : (keys before : List (ℕ × List ℕ)) (given : ℕ) (key : ℕ × List ℕ) → before ≡ take given keys → drop given keys ≡ key ∷ drop (given + 1) keys → before ++ key ∷ [] ≡ take (given + 1) keys
gave_next keys before given key gave next = rw gave (take_next keys given key next)

-- the known keys of the pass are those that its model shows
pub as_told : (keys more : List (ℕ × List ℕ)) (told : Told) → keys ≡ more → (let t : Told = record { keys = keys; fault = None } in Some t) ≡ Some told → told.keys ≡ more
as_told keys more told is known = ap (λ (t : Told). t.keys) (sym (same_Some _ told known)) ∙ is

-- The model of a pass shows its keys and how many it has yielded.
abbrev pub Shows : List ℕ → List ℕ → ℕ → RecordPass → Type 0
Shows lines bytes given pass = (let shown : RecordPass = record { keys = keyed lines bytes; given = given } in shown) ≡ pass

-- the next of the known keys
pub told_next : (v : RecordPass) (lines bytes : List ℕ) (given : ℕ) (line : ℕ) (key : List ℕ) (told : Told) → Shows lines bytes given v → drop given (keyed lines bytes) ≡ (line, key) ∷ drop (given + 1) (keyed lines bytes)
    → (let t : Told = record { keys = v.keys; fault = None } in Some t) ≡ Some told → drop v.given told.keys ≡ (line, key) ∷ drop (given + 1) told.keys
told_next v lines bytes given line key told shows next known =
    let keys : told.keys ≡ keyed lines bytes = as_told v.keys (keyed lines bytes) told (ap (λ (p : RecordPass). p.keys) (sym shows)) known in
    rw (keys, ap (λ (p : RecordPass). p.given) (sym shows)) next

-- a key is left
pub key_left : (v : RecordPass) (lines bytes : List ℕ) (given : ℕ) → Shows lines bytes given v → AreRecords lines bytes → v.given < length v.keys → given < length lines
key_left v lines bytes given shows are left = omega (arith, left, keyed_long lines bytes are, ap (λ (p : RecordPass). p.given) shows, ap (λ (p : RecordPass). length p.keys) shows)

-- none is left
pub none_left : (v : RecordPass) (lines bytes : List ℕ) (given : ℕ) (told : Told) → Shows lines bytes given v → AreRecords lines bytes → given ≡ length lines → (let t : Told = record { keys = v.keys; fault = None } in Some t) ≡ Some told → Ends told v.given None
none_left v lines bytes given told shows are all known =
    let keys : told.keys ≡ keyed lines bytes = as_told v.keys (keyed lines bytes) told (ap (λ (p : RecordPass). p.keys) (sym shows)) known in
    let end : v.given ≡ length told.keys = omega (arith, ap (λ (p : RecordPass). p.given) shows, ap length keys, keyed_long lines bytes are, all) in
    record {
      none_left = ap (λ (n : ℕ). drop n told.keys) end ∙ drop-length told.keys;
      all = end;
      fault_is = ap (λ (t : Told). t.fault) (sym (same_Some _ told known));
    }
