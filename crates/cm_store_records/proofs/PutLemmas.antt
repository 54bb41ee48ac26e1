-- Records in memory, and one more.
use Rattle.std.proofs.Common.{◌≡◌, ◌∙◌, ℕ, suc, ◌+◌, ◌<◌, ◌≤◌, List, [], ◌∷◌, ◌++◌, length, length-append, append_assoc, ap, sym, arith, inl, inr}
use Rattle.std.specs.Prelude.{All}
use Rattle.std.proofs.Math.ListN.{get_or-append}
use Rattle.std.proofs.Math.Seq.{get_or-append_seam}
use Rattle.std.proofs.lemmas.Bool.{cases_lt}
use Rattle.std.proofs.lemmas.List.Elements.{All-append, All-cons, All-nil}
use Rattle.cm_io.specs.declared.key_pass.TheConstants.{MAX_KEY_LEN}
use Rattle.cm_spec.specs.declared.limits.TheConstants.{MAX_KEYS}
use Rattle.cm_store_records.specs.RecordLaws.{bytes_more, no_records, record_long, records_all}
use Rattle.cm_store_records.specs.RecordPass.{HoldsRecords, IsSmall, LinesRise, line_before}
use Rattle.cm_store_records.specs.Records.{Record, bytes_of, record_bytes, record_size, records_in}
use Rattle.cm_store_records.specs.declared.limits.TheConstants.{MAX_RECORD_BYTES}

pub holds_none : HoldsRecords [] []
holds_none = record {
  records = record { whole = ap length (no_records []); rise = λ i low. absurd (omega (arith, low)); few = omega arith };
  all = ap bytes_of (no_records []);
  small = rw (no_records []) (All-nil IsSmall);
  size = omega arith;
}

-- the lines with a later one still rise
rises : (lines : List ℕ) (line : ℕ) → LinesRise lines → line_before lines (length lines) < line → LinesRise (lines ++ line ∷ [])
rises lines line rise later i low = elim (cases_lt i (length lines)) [
  | inl before ↦ rw (kept i (omega (arith, before)), kept (i + 1) (omega (arith, before))) (rise i before)
  | inr past ↦
      let end : i ≡ length lines = omega (arith, past, low, length-append lines (line ∷ [])) in
      let up : i + 1 ≡ suc (length lines) = omega (arith, end) in
      rw (kept i (omega (arith, end)), up, end, get_or-append_seam lines line [] 0) later
] where
  kept : (n : ℕ) → n < suc (length lines) → line_before (lines ++ line ∷ []) n ≡ line_before lines n
  kept n within = get_or-append (0 ∷ lines) (line ∷ []) 0 n within

pub holds_more : (lines bytes : List ℕ) (line : ℕ) (r : Record) (more : List ℕ) → HoldsRecords lines bytes → length lines < MAX_KEYS → line_before lines (length lines) < line → length r.key + length r.value ≤ MAX_KEY_LEN → length bytes + record_size r ≤ MAX_RECORD_BYTES → more ≡ bytes ++ record_bytes r
    → HoldsRecords (lines ++ line ∷ []) more
holds_more lines bytes line r more holds few later short fits is =
    let rs = records_in (length lines) bytes in
    let count : length (lines ++ line ∷ []) ≡ length (rs ++ r ∷ []) = omega (arith, length-append lines (line ∷ []), length-append rs (r ∷ []), holds.records.whole) in
    let small : All IsSmall (rs ++ r ∷ []) = All-append IsSmall rs (r ∷ []) holds.small (All-cons IsSmall r [] (omega (arith, short), omega (arith, short)) (All-nil IsSmall)) in
    let bytes_are : more ≡ bytes_of (rs ++ r ∷ []) =
    is ∙ ap (λ (l : List ℕ). l ++ record_bytes r) (sym holds.all) ∙ bytes_more rs r in
    let records : records_in (length (lines ++ line ∷ [])) more ≡ rs ++ r ∷ [] = rw (count, bytes_are) (records_all (rs ++ r ∷ []) small) in
    record {
      records = record {
        whole = ap length records ∙ sym count;
        rise = rises lines line holds.records.rise later;
        few = omega (arith, length-append lines (line ∷ []), few);
      };
      all = ap bytes_of records ∙ sym bytes_are;
      small = rw records small;
      size = omega (arith, ap length is, length-append bytes (record_bytes r), record_long r, fits);
    }

-- the parts of a record, one after another
pub put_parts : (before key_len value_len key value a b c d e : List ℕ) → a ≡ before → b ≡ a ++ key_len → c ≡ b ++ value_len → d ≡ c ++ key → e ≡ d ++ value → e ≡ before ++ (key_len ++ (value_len ++ (key ++ value)))
put_parts before key_len value_len key value a b c d e a_is b_is c_is d_is e_is =
    rw (e_is, d_is, c_is, b_is, a_is) (
    append_assoc (((before ++ key_len) ++ value_len)) key value
    ∙ append_assoc (before ++ key_len) value_len (key ++ value)
    ∙ append_assoc before key_len (value_len ++ (key ++ value))
    )

-- the last of some lines
pub last_line : (lines new : List ℕ) (line : ℕ) → new ≡ lines ++ line ∷ [] → line_before new (length new) ≡ line
last_line lines new line is =
    let up : length (lines ++ line ∷ []) ≡ suc (length lines) = omega (arith, length-append lines (line ∷ [])) in
    rw (is, up) (get_or-append_seam lines line [] 0)
