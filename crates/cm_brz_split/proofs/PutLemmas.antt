-- Keys that go into a store, one after another.
use Rattle.std.proofs.Common.{◌≡◌, ◌≢◌, ◌∙◌, ◌⊎◌, ℕ, ◌+◌, ◌<◌, true, false, cond, List, [], ◌∷◌, ◌++◌, length, drop, get_or, set, eqb, sym, ap, inl, inr, arith, append_assoc, Option}
use Rattle.std.specs.Option.{ForSome}
use Rattle.std.specs.Prelude.{replicate}
use Rattle.std.proofs.lemmas.Bool.{cases_Bool, cond-true, cond-false, eqb-true, eqb-false}
use Rattle.std.proofs.lemmas.Grind.{get_or-set_at}
use Rattle.std.proofs.lemmas.List.{append-nil, get_or-set_other}
use Rattle.cm_io.specs.Passes.{Told}
use Rattle.cm_brz_split.specs.Puts.{AreAllPut, HaveSizes, PutsOne, records_under}
use Rattle.cm_brz_split.specs.Records.{Record, records_of}
use Rattle.cm_brz_split.specs.SizesLaws.{get_or-zeros}

-- the records of the keys up to this place were put, and counted by bucket
pub record ArePut (Holds : List Record → Type 0) (told : Option Told) (place : ℕ) (put : List ℕ) (k split : ℕ) : Type 0 where
  pub records : List Record
  pub held : Holds records
  pub sizes : HaveSizes records put k
  pub all_are : ForSome told (λ t. records ++ records_under (drop place t.keys) k split ≡ records_under t.keys k split)

pub none_put : (Holds : List Record → Type 0) (told : Option Told) (place : ℕ) (put : List ℕ) (k split n : ℕ) → Holds [] → put ≡ replicate n 0 → place ≡ 0 → ArePut Holds told place put k split
none_put Holds told place put k split n h e at = record {
  records = [];
  held = h;
  sizes = λ j low. sym (ap (λ (xs : List ℕ). get_or xs j 0) e ∙ get_or-zeros n j);
  all_are = λ t is. ap (λ (p : ℕ). records_under (drop p t.keys) k split) at;
}

-- the records of a bucket with one more at the end
records_of-push : (j : ℕ) (records : List Record) (r : Record) → length (records_of j (records ++ r ∷ [])) ≡ length (records_of j records) + cond (eqb r.bucket j) 1 0
records_of-push j [] r = elim (eqb r.bucket j) as (λ b. length (cond b (r ∷ []) []) ≡ 0 + cond b 1 0) [ true ↦ omega arith | false ↦ omega arith ]
records_of-push j (x ∷ xs) r =
    let ih : length (records_of j (xs ++ r ∷ [])) ≡ length (records_of j xs) + cond (eqb r.bucket j) 1 0 = records_of-push j xs r in
    elim (eqb x.bucket j) as (λ b. length (cond b (x ∷ records_of j (xs ++ r ∷ [])) (records_of j (xs ++ r ∷ []))) ≡ length (cond b (x ∷ records_of j xs) (records_of j xs)) + cond (eqb r.bucket j) 1 0) [ true ↦ omega arith | false ↦ ih ]

-- its count, if that of this bucket is one more
pub count_one : (put : List ℕ) (i j n c : ℕ) → j < length put → n ≡ get_or put j 0 + 1 → c ≡ get_or put i 0 → c + cond (eqb j i) 1 0 ≡ get_or (set put j n) i 0
count_one put i j n c l e h = go (cases_Bool (eqb j i)) where
  go : (eqb j i ≡ true) ⊎ (eqb j i ≡ false) → c + cond (eqb j i) 1 0 ≡ get_or (set put j n) i 0
  go (inl t) =
      let same : j ≡ i = eqb-true j i t in
      let there : get_or (set put j n) i 0 ≡ n = get_or-set_at put j i n 0 (sym same) l in
      let here : get_or put j 0 ≡ get_or put i 0 = ap (λ (x : ℕ). get_or put x 0) same in
      let one : cond {A = ℕ} (eqb j i) 1 0 ≡ 1 = cond-true (eqb j i) 1 0 t in
      omega arith
  go (inr f) =
      let other : i ≢ j = λ q. eqb-false j i f (sym q) in
      let there : get_or (set put j n) i 0 ≡ get_or put i 0 = get_or-set_other put j i n 0 other in
      let none : cond {A = ℕ} (eqb j i) 1 0 ≡ 0 = cond-false (eqb j i) 1 0 f in
      omega arith

pub put_more : (Holds Held : List Record → Type 0) (told was : Option Told) (place now : ℕ) (put : List ℕ) (k split j n : ℕ) → was ≡ told → ArePut Holds told place put k split → ((records : List Record) → Holds records → PutsOne Held was place now k split j records) → j < length put → n ≡ get_or put j 0 + 1 → ArePut Held told now (set put j n) k split
put_more Holds Held told was place now put k split j n same before one l e =
    let step = one before.records before.held in
    let r : Record = step.put in
    record {
      records = before.records ++ r ∷ [];
      held = step.held;
      sizes = λ i low. records_of-push i before.records r ∙ (ap (λ (b : ℕ). length (records_of i before.records) + cond (eqb b i) 1 0) step.here ∙ count_one put i j n (length (records_of i before.records)) l e (before.sizes i low));
      all_are = λ t is.
          let next = step.next t (same ∙ is) in
          let rest : List Record = records_under (drop now t.keys) k split in
          let left : records_under (drop place t.keys) k split ≡ r ∷ rest = ap (λ (xs : List (ℕ × List ℕ)). records_under xs k split) next.is ∙ ap (λ (x : Record). x ∷ rest) (sym next.put_is) in
          append_assoc before.records (r ∷ []) rest ∙ (ap (λ (xs : List Record). before.records ++ xs) (sym left) ∙ before.all_are t is);
    }

pub all_put : (Holds : List Record → Type 0) (told : Option Told) (place : ℕ) (put : List ℕ) (k split : ℕ) → ArePut Holds told place put k split → ForSome told (λ t. drop place t.keys ≡ []) → AreAllPut Holds told put k split
all_put Holds told place put k split h ends = record {
  records = h.records;
  held = h.held;
  sizes_are = h.sizes;
  all_are = λ t is. sym (append-nil h.records) ∙ (ap (λ (xs : List (ℕ × List ℕ)). h.records ++ records_under xs k split) (sym (ends t is)) ∙ h.all_are t is);
}

pub put_as_counted : (Holds : List Record → Type 0) (told : Option Told) (put sizes : List ℕ) (k split : ℕ) → AreAllPut Holds told put k split → ((j : ℕ) → j < k → get_or put j 0 ≡ get_or sizes j 0) → AreAllPut Holds told sizes k split
put_as_counted Holds told put sizes k split h same = record {
  records = h.records;
  held = h.held;
  sizes_are = λ j low. h.sizes_are j low ∙ same j low;
  all_are = h.all_are;
}
