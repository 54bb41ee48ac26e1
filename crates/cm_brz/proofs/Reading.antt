-- Keys of a bucket that come back from a store, one after another.
use Rattle.std.proofs.Common.{◌≡◌, ◌∙◌, ℕ, ◌<◌, ◌≤◌, List, [], ◌∷◌, ◌++◌, length, map, drop, sym, ap, arith, append_assoc, length-drop}
use Rattle.std.proofs.lemmas.List.{append-nil}
use Rattle.cm_brz_split.specs.Puts.{keys_in_bucket}
use Rattle.cm_brz_split.specs.Records.{Record, records_of}

-- a record as a key with its line
abbrev pub key_of : Record → ℕ × List ℕ
key_of r = (r.line, r.key)

-- of the keys of a bucket these were read, and the records after this many are left
pub record AreRead (held : List (ℕ × List ℕ)) (count bucket : ℕ) (records : List Record) : Type 0 where
  pub all_is : held ++ map key_of (drop count (records_of bucket records)) ≡ keys_in_bucket records bucket

pub none_read : (held : List (ℕ × List ℕ)) (bucket : ℕ) (records : List Record) → held ≡ [] → AreRead held 0 bucket records
none_read held bucket records e = record { all_is = ap (λ (xs : List (ℕ × List ℕ)). xs ++ map key_of (records_of bucket records)) e }

pub read_more : (held more : List (ℕ × List ℕ)) (count before now next bucket line : ℕ) (key : List ℕ) (records : List Record) → AreRead held count bucket records → before ≡ count → now ≡ next → drop before (records_of bucket records) ≡ (record { bucket = bucket; line = line; key = key }) ∷ drop now (records_of bucket records) → more ≡ held ++ (line, key) ∷ [] → AreRead more next bucket records
read_more held more count before now next bucket line key records h at then_at gives e =
    let rs : List Record = records_of bucket records in
    let split : drop count rs ≡ (record { bucket = bucket; line = line; key = key }) ∷ drop next rs = ap (λ (n : ℕ). drop n rs) (sym at) ∙ (gives ∙ ap (λ (n : ℕ). (record { bucket = bucket; line = line; key = key }) ∷ drop n rs) then_at) in
    record {
      all_is = ap (λ (xs : List (ℕ × List ℕ)). xs ++ map key_of (drop next rs)) e ∙ (append_assoc held ((line, key) ∷ []) (map key_of (drop next rs)) ∙ (ap (λ (xs : List Record). held ++ map key_of xs) (sym split) ∙ h.all_is));
    }

pub all_read : (held : List (ℕ × List ℕ)) (count before bucket : ℕ) (records : List Record) → AreRead held count bucket records → before ≡ count → drop before (records_of bucket records) ≡ [] → held ≡ keys_in_bucket records bucket
all_read held count before bucket records h at none = sym (append-nil held) ∙ (ap (λ (xs : List Record). held ++ map key_of xs) (sym none ∙ ap (λ (n : ℕ). drop n (records_of bucket records)) at) ∙ h.all_is)

-- how many are left if a record comes, and if none does
pub more_left : (before : ℕ) (rs rest : List Record) (r : Record) → drop before rs ≡ r ∷ rest → before < length rs
more_left before rs rest r e = omega (arith, length-drop before rs, ap length e)

pub none_left : (before : ℕ) (rs : List Record) → drop before rs ≡ [] → length rs ≤ before
none_left before rs e = omega (arith, length-drop before rs, ap length e)
