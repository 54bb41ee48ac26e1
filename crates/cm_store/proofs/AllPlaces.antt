-- Every place is that of a record, if there are as many records as places, and each is looked up where it stands.
use Rattle.std.proofs.Common.{◌≡◌, ◌∙◌, ℕ, ◌+◌, ◌<◌, ◌||◌, Bool, true, false, eqb, List, [], ◌∷◌, length, map, Option, None, Some, refl, ap, sym, arith, inl, inr, nat_eq, nat_lt, if◌then◌else◌}
use Rattle.std.specs.Prelude.{slice_index, unwrap_or}
use Rattle.std.specs.List.{AllByRecursion, IsDistinct, list_any}
use Rattle.std.specs.Option.{option_and_then, option_eq}
use Rattle.std.proofs.lemmas.Bool.{cases_Bool, eq-eqb, eqb-true, false≢true, ltb-true, ne_eqb}
use Rattle.std.proofs.lemmas.List.{length-map}
use Rattle.std.proofs.lemmas.Map.Steps.{length-le_from_distinct_below}
use Rattle.std.proofs.lemmas.Option.{none-some, same_Some}
use Rattle.cm_store.specs.Stores as stores
use Rattle.cm_store.specs.Stores.{place_at, place_for}
use Rattle.cm_store.proofs.Standing.{AreFound, Offsets, Stands}
use Rattle.cm_store_records.specs.Records.{Record, record_size}

-- where keys are looked up, by the answers of an index and places
abbrev pub offsets : Offsets → List ℕ → Offsets
offsets answer places key = option_and_then (place_at places) (answer key)

-- the answers for the keys of records
abbrev pub numbers : Offsets → List Record → List ℕ
numbers answer rs = map (λ r. unwrap_or (answer r.key) 0) rs

-- A key that is looked up at an offset has an answer, and its place is that offset.
pub record HasNumber (answer : Offsets) (places key : List ℕ) (at : ℕ) : Type 0 where
  pub number : ℕ
  pub is : answer key ≡ Some number
  pub below : number < length places
  pub place : slice_index places number ≡ at

pub has_number : (answer : Offsets) (places key : List ℕ) (at : ℕ) → offsets answer places key ≡ Some at → HasNumber answer places key at
has_number answer places key at looked = go (answer key) refl looked where
  place : (v : ℕ) → answer key ≡ Some v → (b : Bool) → nat_lt v (length places) ≡ b → (if b then Some (slice_index places v) else None) ≡ Some at → HasNumber answer places key at
  place v is true below there = record { number = v; is = is; below = ltb-true v (length places) below; place = same_Some (slice_index places v) at there }
  place v is false past none = absurd (none-some at none)

  go : (o : Option ℕ) → answer key ≡ o → option_and_then (place_at places) o ≡ Some at → HasNumber answer places key at
  go None is looked = absurd (none-some at looked)
  go (Some v) is looked = place v is (nat_lt v (length places)) refl looked

-- a number whose place is earlier than all of some records is no answer for them
others : (answer : Offsets) (places : List ℕ) (at v : ℕ) (rs : List Record) → AreFound (offsets answer places) at rs → slice_index places v < at → AllByRecursion (λ y. eqb v y ≡ false) (numbers answer rs)
unfolding AreFound
others answer places at v [] found earlier = tt
others answer places at v (r ∷ rs) found earlier =
    let n = has_number answer places r.key at found.0 in
    let number : unwrap_or (answer r.key) 0 ≡ n.number = ap (λ (o : Option ℕ). unwrap_or o 0) n.is in (
      rw number (ne_eqb v n.number (λ same. omega (arith, earlier, n.place, ap (slice_index places) same))),
      others answer places (at + record_size r) v rs found.1 (omega (arith, earlier)),
    )

-- the answers differ
distinct : (answer : Offsets) (places : List ℕ) (at : ℕ) (rs : List Record) → AreFound (offsets answer places) at rs → IsDistinct eqb (numbers answer rs)
unfolding AreFound IsDistinct
distinct answer places at [] found = tt
distinct answer places at (r ∷ rs) found =
    let n = has_number answer places r.key at found.0 in
    let number : unwrap_or (answer r.key) 0 ≡ n.number = ap (λ (o : Option ℕ). unwrap_or o 0) n.is in
    (rw number (others answer places (at + record_size r) n.number rs found.1 (omega (arith, n.place))), distinct answer places (at + record_size r) rs found.1)

-- and are numbers of places
below : (answer : Offsets) (places : List ℕ) (at : ℕ) (rs : List Record) → AreFound (offsets answer places) at rs → (q : ℕ) → list_any (eqb q) (numbers answer rs) ≡ true → q < length places
unfolding AreFound
below answer places at [] found q there = absurd (false≢true there)
below answer places at (r ∷ rs) found q there = go (eqb q (unwrap_or (answer r.key) 0)) refl there (below answer places (at + record_size r) rs found.1 q) where
  n : HasNumber answer places r.key at
  n = has_number answer places r.key at found.0

  number : unwrap_or (answer r.key) 0 ≡ n.number
  number = ap (λ (o : Option ℕ). unwrap_or o 0) n.is

  go : (b : Bool) → eqb q (unwrap_or (answer r.key) 0) ≡ b → (b || list_any (eqb q) (numbers answer rs)) ≡ true → (list_any (eqb q) (numbers answer rs) ≡ true → q < length places) → q < length places
  go true is there later = omega (arith, n.below, number, eqb-true q (unwrap_or (answer r.key) 0) is)
  go false is there later = later there

-- a number that is an answer for some records is that of one of them, and its place is where this stands
pub stands_by : (answer : Offsets) (places : List ℕ) (at v : ℕ) (rs : List Record) → AreFound (offsets answer places) at rs → list_any (eqb v) (numbers answer rs) ≡ true → (r : Record) × Stands at rs (slice_index places v) r
unfolding AreFound Stands
stands_by answer places at v [] found there = absurd (false≢true there)
stands_by answer places at v (r ∷ rs) found there = go (eqb v (unwrap_or (answer r.key) 0)) refl there (stands_by answer places (at + record_size r) v rs found.1) where
  go : (b : Bool) → eqb v (unwrap_or (answer r.key) 0) ≡ b → (b || list_any (eqb v) (numbers answer rs)) ≡ true
      → (list_any (eqb v) (numbers answer rs) ≡ true → (x : Record) × Stands (at + record_size r) rs (slice_index places v) x) → (x : Record) × Stands at (r ∷ rs) (slice_index places v) x
  go true is there later =
      let n = has_number answer places r.key at found.0 in
      let same : v ≡ n.number = eqb-true v (unwrap_or (answer r.key) 0) is ∙ ap (λ (o : Option ℕ). unwrap_or o 0) n.is in
      (r, inl (ap (slice_index places) same ∙ n.place, refl))
  go false is there later = let x = later there in (x.0, inr x.1)

-- a number that is none of some
apart_from : (v : ℕ) (xs : List ℕ) → list_any (eqb v) xs ≡ false → AllByRecursion (λ y. eqb v y ≡ false) xs
apart_from v [] none = tt
apart_from v (x ∷ xs) none = go (eqb v x) refl none (apart_from v xs) where
  go : (b : Bool) → eqb v x ≡ b → (b || list_any (eqb v) xs) ≡ false → (list_any (eqb v) xs ≡ false → AllByRecursion (λ y. eqb v y ≡ false) xs) → (eqb v x ≡ false) × AllByRecursion (λ y. eqb v y ≡ false) xs
  go true is none later = absurd (false≢true (sym none))
  go false is none later = (is, later none)

-- one more number below a bound
more_below : (v bound q : ℕ) (xs : List ℕ) → v < bound → (list_any (eqb q) xs ≡ true → q < bound) → list_any (eqb q) (v ∷ xs) ≡ true → q < bound
more_below v bound q xs small others there = go (eqb q v) refl there where
  go : (b : Bool) → eqb q v ≡ b → (b || list_any (eqb q) xs) ≡ true → q < bound
  go true is there = omega (arith, small, eqb-true q v is)
  go false is there = others there

-- v and the answers, if v is none of them
one_more : (v : ℕ) (xs : List ℕ) → list_any (eqb v) xs ≡ false → IsDistinct eqb xs → IsDistinct eqb (v ∷ xs)
unfolding IsDistinct
one_more v xs none apart = (apart_from v xs none, apart)

-- if there are as many records as places, each place is that of a record
pub all_stand : (answer : Offsets) (places : List ℕ) (rs : List Record) (v : ℕ) → AreFound (offsets answer places) 0 rs → length rs ≡ length places → v < length places → list_any (eqb v) (numbers answer rs) ≡ true
all_stand answer places rs v found long small = elim (cases_Bool (list_any (eqb v) (numbers answer rs))) [
  | inl there ↦ there
  | inr none ↦
      let more = one_more v (numbers answer rs) none (distinct answer places 0 rs found) in
      let few = length-le_from_distinct_below (v ∷ numbers answer rs) (length places) more (λ q. more_below v (length places) q (numbers answer rs) small (below answer places 0 rs found q)) in
      absurd (omega (arith, few, long, length-map rs (λ (r : Record). unwrap_or (answer r.key) 0)))
]

-- the place of an answer is the offset of the first record whose key has it
pub place_is : (answer : Offsets) (places : List ℕ) (at v : ℕ) (rs : List Record) → AreFound (offsets answer places) at rs → list_any (eqb v) (numbers answer rs) ≡ true → place_for answer v at rs ≡ slice_index places v
unfolding AreFound stores.place_for
place_is answer places at v [] found there = absurd (false≢true there)
place_is answer places at v (r ∷ rs) found there = go (eqb v n.number) refl (rw (sym number) there) (place_is answer places (at + record_size r) v rs found.1) where
  n : HasNumber answer places r.key at
  n = has_number answer places r.key at found.0

  number : unwrap_or (answer r.key) 0 ≡ n.number
  number = ap (λ (o : Option ℕ). unwrap_or o 0) n.is

  go : (b : Bool) → eqb v n.number ≡ b → (b || list_any (eqb v) (numbers answer rs)) ≡ true → (list_any (eqb v) (numbers answer rs) ≡ true → place_for answer v (at + record_size r) rs ≡ slice_index places v)
      → (if option_eq nat_eq (answer r.key) (Some v) then at else place_for answer v (at + record_size r) rs) ≡ slice_index places v
  go true is there later =
      let same : v ≡ n.number = eqb-true v n.number is in
      rw (n.is, eq-eqb n.number v (sym same)) (sym n.place ∙ ap (slice_index places) (sym same))
  go false is there later = rw (n.is, ne_eqb n.number v (λ same. false≢true (sym is ∙ eq-eqb v n.number (sym same)))) (later there)
