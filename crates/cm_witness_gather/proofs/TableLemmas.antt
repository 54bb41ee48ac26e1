-- Tables of keys by their bytes.
use Rattle.std.proofs.Common.{◌≡◌, ◌∙◌, ℕ, zero, suc, ◌+◌, ◌-◌, ◌<◌, ◌≤◌, List, [], ◌∷◌, ◌++◌, length, map, take, drop, get_or, set, All, None, Some, refl, ap, sym, arith, Bool, true, false, ⊎_elim, bytes_eq, get_or-set_other, length-append, length-drop}
use Rattle.std.proofs.lemmas.Bool.{cases_Bool, cases_eq, cond-true, cond-false}
use Rattle.std.proofs.lemmas.Grind.{get_or-set_at}
use Rattle.std.proofs.lemmas.List.{drop-append-le, get_or-map, get_or_append_left, get_or_at, get_or_read, length-set, map-append, take_all, take-append-le}
use Rattle.std.proofs.lemmas.List.Elements.{All-head, All-push, All-same, All-set, All-tail}
use Rattle.std.proofs.lemmas.Slice.Eq.{bytes_eq-Decides}
use Rattle.std.proofs.Math.Seq.{drop-append_seam}
use Rattle.cm_witness_gather.specs.Candidates.{word_of}
use Rattle.cm_witness_gather.specs.Pairs.{first_line}
use Rattle.cm_witness_gather.specs.Tables.{IsTable, StandsIn, Takes, number_of, spotted_in}
use Rattle.cm_witness_gather.specs.declared.table.Spot.{Spot}

-- the key of a number, counted from 0
abbrev pub key_in : List (ℕ × List ℕ) → ℕ → ℕ × List ℕ
key_in keys i = get_or keys i (0, [])

-- the only key with these bytes
first_at : (keys : List (ℕ × List ℕ)) (key : List ℕ) (i : ℕ) → i < length keys → (key_in keys i).1 ≡ key → ((j : ℕ) → j < length keys → (key_in keys j).1 ≡ key → j ≡ i) → first_line keys key ≡ Some (key_in keys i).0
first_at [] key i inside is only = absurd (omega (arith, inside))
first_at (k ∷ keys) key zero inside is only = cond-true (bytes_eq k.1 key) (Some k.0) (first_line keys key) ((bytes_eq-Decides k.1 key).1 is)
first_at (k ∷ keys) key (suc i) inside is only = ⊎_elim
    (λ (same : bytes_eq k.1 key ≡ true). absurd (omega (arith, only 0 (omega arith) ((bytes_eq-Decides k.1 key).0 same))))
    (λ (other : bytes_eq k.1 key ≡ false).
    cond-false (bytes_eq k.1 key) (Some k.0) (first_line keys key) other
    ∙ first_at keys key i (omega (arith, inside)) is (λ j within same. omega (arith, only (suc j) (omega (arith, within)) same)))
    (cases_Bool (bytes_eq k.1 key))

-- no key with these bytes
first_none : (keys : List (ℕ × List ℕ)) (key : List ℕ) → ((j : ℕ) → j < length keys → (key_in keys j).1 ≡ key → ⊥) → first_line keys key ≡ None
first_none [] key none = refl
first_none (k ∷ keys) key none = ⊎_elim
    (λ (same : bytes_eq k.1 key ≡ true). absurd (none 0 (omega arith) ((bytes_eq-Decides k.1 key).0 same)))
    (λ (other : bytes_eq k.1 key ≡ false).
    cond-false (bytes_eq k.1 key) (Some k.0) (first_line keys key) other
    ∙ first_none keys key (λ j within. none (suc j) (omega (arith, within))))
    (cases_Bool (bytes_eq k.1 key))

-- a key is found by the number in its slot
pub found_by_slot : (keys : List (ℕ × List ℕ)) (slots key : List ℕ) (i : ℕ) → IsTable keys slots → i < length keys → number_of slots key ≡ i + 1 → (key_in keys i).1 ≡ key → first_line keys key ≡ Some (key_in keys i).0
found_by_slot keys slots key i table inside at is =
    first_at keys key i inside is (λ j within same. omega (arith, at, table.finds j within, ap (number_of slots) same))

-- no key is there if that number is of no such key
pub none_by_slot : (keys : List (ℕ × List ℕ)) (slots key : List ℕ) → IsTable keys slots → ((i : ℕ) → number_of slots key ≡ i + 1 → (key_in keys i).1 ≡ key → ⊥) → first_line keys key ≡ None
none_by_slot keys slots key table none =
    first_none keys key (λ j within same. none j (sym (ap (number_of slots) same) ∙ table.finds j within) same)

-- a number that was read from the slot of a key
pub number_read : (slots : List ℕ) (w n : ℕ) (key : List ℕ) → w < length slots → w ≡ word_of (length slots) key → n ≡ get_or slots w n → number_of slots key ≡ n
number_read slots w n key inside at is = sym (get_or_read slots w n inside is 0 ∙ ap (λ (v : ℕ). get_or slots v 0) at)

-- the number in a slot after one was changed
number_set : (slots : List ℕ) (w n : ℕ) (key : List ℕ) → w < length slots → word_of (length slots) key ≡ w → number_of (set slots w n) key ≡ n
number_set slots w n key inside is =
    get_or-set_at slots w (word_of (length (set slots w n)) key) n _ (ap (λ l. word_of l key) (length-set slots w n) ∙ is) inside

number_kept : (slots : List ℕ) (w n : ℕ) (key : List ℕ) → (word_of (length slots) key ≡ w → ⊥) → number_of (set slots w n) key ≡ number_of slots key
number_kept slots w n key other =
    ap (λ l. get_or (set slots w n) (word_of l key) 0) (length-set slots w n)
    ∙ get_or-set_other slots w (word_of (length slots) key) n _ other

-- the key of a spot
pub spot_at : (bytes : List ℕ) (spots : List Spot) (i : ℕ) (s : Spot) → i < length spots → s ≡ get_or spots i s → key_in (map (spotted_in bytes) spots) i ≡ spotted_in bytes s
spot_at bytes spots i s inside is = get_or-map (spotted_in bytes) spots i s (0, []) inside ∙ ap (spotted_in bytes) (sym is)

-- whether it is this one
pub spot_is : (bytes : List ℕ) (spots : List Spot) (i : ℕ) (s : Spot) (key : List ℕ) (is : Bool) → i < length spots → s ≡ get_or spots i s → is ≡ bytes_eq (take (s.from + s.len - s.from) (drop s.from bytes)) key → is ≡ bytes_eq (key_in (map (spotted_in bytes) spots) i).1 key
spot_is bytes spots i s key is inside at compared =
    let long : s.from + s.len - s.from ≡ s.len = omega arith in
    compared
    ∙ ap (λ (n : ℕ). bytes_eq (take n (drop s.from bytes)) key) long
    ∙ ap (λ (k : ℕ × List ℕ). bytes_eq k.1 key) (sym (spot_at bytes spots i s inside at))

-- with more bytes behind, the keys are the same
pub spotted_kept : (bytes more : List ℕ) (spots : List Spot) → All (StandsIn bytes) spots → map (spotted_in (bytes ++ more)) spots ≡ map (spotted_in bytes) spots
spotted_kept bytes more [] all = refl
spotted_kept bytes more (s ∷ ss) all =
    let here : StandsIn bytes s = All-head (StandsIn bytes) s ss all in
    let from : drop s.from (bytes ++ more) ≡ drop s.from bytes ++ more = drop-append-le s.from bytes more (omega (arith, here)) in
    let same : take s.len (drop s.from (bytes ++ more)) ≡ take s.len (drop s.from bytes) =
    ap (λ (l : List ℕ). take s.len l) from ∙ take-append-le s.len (drop s.from bytes) more (omega (arith, here, length-drop s.from bytes)) in
    ap (λ (l : List ℕ). let k : ℕ × List ℕ = (s.line, l) in k ∷ map (spotted_in (bytes ++ more)) ss) same
    ∙ ap (λ (l : List (ℕ × List ℕ)). spotted_in bytes s ∷ l) (spotted_kept bytes more ss (All-tail (StandsIn bytes) s ss all))

-- a spot more stands among them
pub stands_more : (bytes key bytes' : List ℕ) (spots spots' : List Spot) (s : Spot) → All (StandsIn bytes) spots → bytes' ≡ bytes ++ key → spots' ≡ spots ++ s ∷ [] → s.from ≡ length bytes → s.len ≡ length key → All (StandsIn bytes') spots'
stands_more bytes key bytes' spots spots' s all grown more from long =
    let longer : length bytes' ≡ length bytes + length key = ap length grown ∙ length-append bytes key in
    All-same (StandsIn bytes') _ _ more (All-push (StandsIn bytes') spots s (λ i d inside. omega (arith, all i d inside, longer)) (omega (arith, from, long, longer)))

-- one key more
pub spotted_more : (bytes key bytes' : List ℕ) (spots spots' : List Spot) (s : Spot) → All (StandsIn bytes) spots → bytes' ≡ bytes ++ key → spots' ≡ spots ++ s ∷ [] → s.from ≡ length bytes → s.len ≡ length key
    → map (spotted_in bytes') spots' ≡ map (spotted_in bytes) spots ++ (s.line, key) ∷ []
spotted_more bytes key bytes' spots spots' s all grown more from long =
    let last : take s.len (drop s.from (bytes ++ key)) ≡ key =
    ap (λ (i : ℕ). take s.len (drop i (bytes ++ key))) from
    ∙ ap (λ (l : List ℕ). take s.len l) (drop-append_seam bytes key)
    ∙ take_all s.len key (omega (arith, long)) in
    ap (λ (b : List ℕ). map (spotted_in b) spots') grown
    ∙ ap (map (spotted_in (bytes ++ key))) more
    ∙ map-append (spotted_in (bytes ++ key)) spots (s ∷ [])
    ∙ ap (λ (l : List (ℕ × List ℕ)). l ++ spotted_in (bytes ++ key) s ∷ []) (spotted_kept bytes key spots all)
    ∙ ap (λ (l : List ℕ). let k : ℕ × List ℕ = (s.line, l) in map (spotted_in bytes) spots ++ k ∷ []) last

-- a table takes no key more than before, after one was added
pub takes_fewer : (keys : List (ℕ × List ℕ)) (slots : List ℕ) (w n : ℕ) (k : ℕ × List ℕ) (other : List ℕ) → w < length slots → 0 < n
    → Takes (record { keys = keys ++ k ∷ []; slots = set slots w n }) other → Takes (record { keys = keys; slots = slots }) other
takes_fewer keys slots w n k other inside some takes = record {
  free = ⊎_elim
      (λ (at : word_of (length slots) other ≡ w). absurd (omega (arith, some, number_set slots w n other inside at, takes.free)))
      (λ (off : word_of (length slots) other ≡ w → ⊥). sym (number_kept slots w n other off) ∙ takes.free)
      (cases_eq (word_of (length slots) other) w);
  few = omega (arith, takes.few, length-append keys (k ∷ []));
  short = takes.short;
}

-- and it is a table
pub table_more : (keys : List (ℕ × List ℕ)) (slots : List ℕ) (w n line : ℕ) (key : List ℕ) → IsTable keys slots → w < length slots → w ≡ word_of (length slots) key → number_of slots key ≡ 0 → n ≡ length keys + 1
    → IsTable (keys ++ (line, key) ∷ []) (set slots w n)
table_more keys slots w n line key table inside at free is =
    let long : length (keys ++ (line, key) ∷ []) ≡ length keys + 1 = length-append keys ((line, key) ∷ []) in
    record {
      some = omega (arith, table.some, length-set slots w n);
      few = omega (arith, table.few, length-set slots w n);
      inside = All-set (λ (v : ℕ). v ≤ length (keys ++ (line, key) ∷ [])) slots w n (omega (arith, is, long)) (λ v d within. omega (arith, table.inside v d within, long));
      finds = λ i within. ⊎_elim
          (λ (last : i ≡ length keys).
          ap (λ (k : ℕ × List ℕ). number_of (set slots w n) k.1) (get_or_at keys (line, key) [] (0, []) i (sym last))
          ∙ number_set slots w n key inside (sym at)
          ∙ omega (arith, is, last))
          (λ (before : i ≡ length keys → ⊥).
          let below : i < length keys = omega (arith, within, long, before) in
          let old = table.finds i below in
          let k = (key_in keys i).1 in
          ap (λ (k : ℕ × List ℕ). number_of (set slots w n) k.1) (get_or_append_left keys ((line, key) ∷ []) (0, []) i below)
          ∙ number_kept slots w n k (λ same. omega (arith, old, free, ap (λ (v : ℕ). get_or slots v 0) (same ∙ at)))
          ∙ old)
          (cases_eq i (length keys));
    }
