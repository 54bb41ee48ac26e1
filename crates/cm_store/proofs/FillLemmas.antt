-- Places that are filled, one record after another.
use Rattle.std.proofs.Common.{◌≡◌, ◌∙◌, ℕ, suc, ◌+◌, ◌<◌, ◌≤◌, List, [], ◌∷◌, ◌++◌, length, take, drop, get_or, set, length-append, length-set, length-take, get_or-set_other, get_or-set_same, None, Some, refl, ap, sym, arith}
use Rattle.std.specs.Option.{option_and_then}
use Rattle.std.proofs.lemmas.Bool.{lt-ltb}
use Rattle.std.proofs.lemmas.List.{get_or-take}
use Rattle.std.proofs.lemmas.List.FromFn.{fill_by_all, length-map-range_with_len}
use Rattle.std.proofs.lemmas.Option.{none-some}
use Rattle.cm_bdz.specs.Functions.{Bdz, bdz_answer}
use Rattle.cm_bdz.specs.Numbering.{AnswersApart}
use Rattle.cm_bits.specs.Bound.{AllBelow}
use Rattle.cm_spec.specs.Built.{key_at}
use Rattle.cm_spec.specs.declared.limits.TheConstants.{MAX_KEYS}
use Rattle.cm_store.proofs.AllPlaces.{all_stand, has_number, offsets, place_is}
use Rattle.cm_store.proofs.Standing.{AreFound, Offsets, none_bad}
use Rattle.cm_store.specs.Stores.{IsStore, bad_record, first_bad, place_at, place_for, places_of}
use Rattle.cm_store_records.specs.PassLaws.{key_of, keyed_long, some_bytes, there_next}
use Rattle.cm_store_records.specs.RecordLaws.{bytes_more, record_long}
use Rattle.cm_store_records.specs.RecordPass.{AreRecords, HoldsRecords, keyed}
use Rattle.cm_store_records.specs.Records.{Record, bytes_of, record_bytes, record_size, records_in}

-- some records are looked up where they stand, and end at this offset
pub record IsFilled (answer : Offsets) (places : List ℕ) (rs : List Record) (at : ℕ) : Type 0 where
  pub found : AreFound (offsets answer places) 0 rs
  pub end : at ≡ length (bytes_of rs)

-- a place more doesn't change where other keys are looked up
kept : (answer : Offsets) (places : List ℕ) (v at o : ℕ) (key : List ℕ) → offsets answer places key ≡ Some o → (answer key ≡ Some v → ⊥) → offsets answer (set places v at) key ≡ Some o
kept answer places v at o key looked other =
    let n = has_number answer places key o looked in
    let apart : n.number ≡ v → ⊥ = λ same. other (n.is ∙ ap Some same) in
    let long : n.number < length (set places v at) = omega (arith, n.below, length-set places v at) in
    ap (option_and_then (place_at (set places v at))) n.is ∙ rw (lt-ltb n.number (length (set places v at)) long) (ap Some (get_or-set_other places v n.number at 0 apart ∙ n.place))

still_found : (answer : Offsets) (places : List ℕ) (v at from : ℕ) (rs : List Record) → AreFound (offsets answer places) from rs → ((j : ℕ) (d : Record) → j < length rs → answer (get_or rs j d).key ≡ Some v → ⊥) → AreFound (offsets answer (set places v at)) from rs
unfolding AreFound
still_found answer places v at from [] found other = tt
still_found answer places v at from (r ∷ rs) found other = (
  kept answer places v at from r.key found.0 (λ same. other 0 r (omega arith) same),
  still_found answer places v at (from + record_size r) rs found.1 (λ j d low same. other (suc j) d (omega (arith, low)) same),
)

-- one record more
one_found : (offset : Offsets) (from : ℕ) (rs : List Record) (r : Record) → AreFound offset from rs → offset r.key ≡ Some (from + length (bytes_of rs)) → AreFound offset from (rs ++ r ∷ [])
unfolding AreFound
one_found offset from [] r found looked = (let same : from + 0 ≡ from = omega arith in looked ∙ ap Some same, tt)
one_found offset from (x ∷ rs) r found looked =
    let same : from + length (bytes_of (x ∷ rs)) ≡ from + record_size x + length (bytes_of rs) = omega (arith, length-append (record_bytes x) (bytes_of rs), record_long x) in
    (found.0, one_found offset (from + record_size x) rs r found.1 (looked ∙ ap Some same))

pub fill_next : (answer : Offsets) (places : List ℕ) (rs : List Record) (r : Record) (at v : ℕ) → IsFilled answer places rs at → answer r.key ≡ Some v → v < length places → ((j : ℕ) (d : Record) → j < length rs → answer (get_or rs j d).key ≡ Some v → ⊥)
    → IsFilled answer (set places v at) (rs ++ r ∷ []) (at + record_size r)
fill_next answer places rs r at v filled is below other =
    let long : v < length (set places v at) = omega (arith, below, length-set places v at) in
    let looked : offsets answer (set places v at) r.key ≡ Some (0 + length (bytes_of rs)) =
    ap (option_and_then (place_at (set places v at))) is ∙ rw (lt-ltb v (length (set places v at)) long) (ap Some (get_or-set_same places v at 0 below ∙ filled.end ∙ omega arith)) in
    record {
      found = one_found (offsets answer (set places v at)) 0 rs r (still_found answer places v at 0 rs filled.found other) looked;
      end = omega (arith, filled.end, ap length (bytes_more rs r), length-append (bytes_of rs) (record_bytes r), record_long r);
    }

-- no record
pub fill_none : (answer : Offsets) (places : List ℕ) (rs : List Record) → rs ≡ [] → IsFilled answer places rs 0
unfolding AreFound
fill_none answer places rs none = rw none (record { found = tt; end = refl })

-- an earlier key has another answer
pub apart_before : (answer : Offsets) (lines bytes : List ℕ) (bound i v : ℕ) (r : Record) → AreRecords lines bytes → AnswersApart (keyed lines bytes) answer bound → i < length lines → drop i (records_in (length lines) bytes) ≡ r ∷ drop (i + 1) (records_in (length lines) bytes) → answer r.key ≡ Some v
    → (j : ℕ) (d : Record) → j < length (take i (records_in (length lines) bytes)) → answer (get_or (take i (records_in (length lines) bytes)) j d).key ≡ Some v → ⊥
apart_before answer lines bytes bound i v r are apart low next is j d before same =
    let rs = records_in (length lines) bytes in
    let early : j < i = omega (arith, before, length-take i rs) in
    let long = keyed_long lines bytes are in
    let here : key_at (keyed lines bytes) i ≡ r.key = key_of lines bytes i r are low ∙ ap (λ (x : Record). x.key) (there_next rs i r r next) in
    let there : answer (key_at (keyed lines bytes) j) ≡ Some v = ap answer (key_of lines bytes j d are (omega (arith, early, low)) ∙ ap (λ (x : Record). x.key) (sym (get_or-take i rs j d early))) ∙ same in
    let equal : j ≡ i = apart.apart j i (omega (arith, early, low, long)) (omega (arith, low, long)) (there ∙ sym is ∙ ap answer (sym here)) in
    omega (arith, equal, early)

-- each key has an answer
pub has_answer : (answer : Offsets) (lines bytes : List ℕ) (bound i : ℕ) (r : Record) → AreRecords lines bytes → AnswersApart (keyed lines bytes) answer bound → i < length lines → drop i (records_in (length lines) bytes) ≡ r ∷ drop (i + 1) (records_in (length lines) bytes) → answer r.key ≡ None → ⊥
has_answer answer lines bytes bound i r are apart low next none =
    let rs = records_in (length lines) bytes in
    let here : key_at (keyed lines bytes) i ≡ r.key = key_of lines bytes i r are low ∙ ap (λ (x : Record). x.key) (there_next rs i r r next) in
    let known = apart.below i (omega (arith, low, keyed_long lines bytes are)) in
    none-some known.0 (sym none ∙ ap answer (sym here) ∙ known.1)

-- all records are looked up where they stand, so the places are theirs
pub fill_all : (index : Bdz) (places : List ℕ) (rs : List Record) (at : ℕ) → IsFilled (bdz_answer index) places rs at → length rs ≡ length places → places ≡ places_of index rs
fill_all index places rs at filled long =
    fill_by_all (λ v. place_for (bdz_answer index) v 0 rs) places (length rs) 0 (sym long) (λ v low.
    sym (place_is (bdz_answer index) places 0 v rs filled.found (all_stand (bdz_answer index) places rs v filled.found long (omega (arith, low, long)))))

-- and nothing is wrong with the bytes
pub fill_sound : (index : Bdz) (places lines bytes : List ℕ) (at : ℕ) → HoldsRecords lines bytes → IsFilled (bdz_answer index) places (records_in (length lines) bytes) at → length lines ≡ index.keys → bad_record (record { index = index; places = places; bytes = bytes }) ≡ None
fill_sound index places lines bytes at holds filled count =
    let rs = records_in (length lines) bytes in
    let offset = offsets (bdz_answer index) places in
    let many : index.keys ≡ length rs = sym count ∙ sym holds.records.whole in
    ap (λ (n : ℕ). first_bad offset 0 n bytes) many ∙ ap (first_bad offset 0 (length rs)) (sym holds.all) ∙ none_bad offset 0 rs holds.small filled.found

-- the parts of a build make a store
pub is_store : (index : Bdz) (places lines bytes : List ℕ) (m : ℕ) → index.keys ≡ m → (1 ≤ m) × (m ≤ MAX_KEYS) → length lines ≡ m → HoldsRecords lines bytes → places ≡ places_of index (records_in (length lines) bytes) → AllBelow (length bytes) places
    → bad_record (record { index = index; places = places; bytes = bytes }) ≡ None → IsStore (record { index = index; places = places; bytes = bytes })
is_store index places lines bytes m keys many count holds places_are below sound =
    let long = length-map-range_with_len (λ v. place_for (bdz_answer index) v 0 (records_in (length lines) bytes)) 0 (length (records_in (length lines) bytes)) in
    record {
      keys = (omega (arith, keys, many.0), omega (arith, keys, many.1));
      size = (some_bytes lines bytes holds.records (omega (arith, many.0, count)), holds.size);
      places = omega (arith, ap length places_are, long, holds.records.whole, count, keys);
      below = below;
      sound = sound;
    }
