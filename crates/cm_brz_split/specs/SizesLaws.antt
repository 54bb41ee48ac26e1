-- Lemmas about the numbers of keys by bucket.
use Rattle.std.proofs.Common.{◌≡◌, ◌≢◌, ◌∙◌, ◌⊎◌, ℕ, zero, suc, ◌+◌, ◌-◌, ◌*◌, ◌/◌, ◌<◌, ◌≤◌, Bool, true, false, cond, List, [], ◌∷◌, ◌++◌, length, length-append, map, take, get_or, set, sum, eqb, leb, refl, sym, ap, subst, inl, inr, arith, None, Some}
use Rattle.std.specs.Prelude.{find, filter, replicate}
use Rattle.std.specs.List.{range_with_len}
use Rattle.std.proofs.Math.Nat.{div-le_of_le-mul, le-div_iff_mul-le, mul-le-mul_left}
use Rattle.std.proofs.lemmas.Bool.{cases_Bool, cond-true, cond-false, eqb-true, eqb-false, le-leb, lt-leb}
use Rattle.std.proofs.lemmas.Grind.{get_or-set_at}
use Rattle.std.proofs.lemmas.List.{get_or-set_other}
use Rattle.std.proofs.lemmas.List.Elements.{filter-append}
use Rattle.std.proofs.lemmas.List.Folds.{list_all_at, sum_by-replicate}
use Rattle.std.proofs.lemmas.List.FromFn.{get_or-range_with_len, length-range_with_len}
use Rattle.std.proofs.lemmas.List.Sums.{get_or-le-sum_by, length-filter, list_all-from_AllPass, sum-map, sum_by-set, sum_by_more}
use Rattle.std.proofs.lemmas.Simd.{map-map}
use Rattle.cm_brz_func.specs.Functions.{bucket_by, bucket_count, bucket_of, flipped}
use Rattle.cm_spec.specs.declared.limits.TheConstants.{MAX_BUCKET}
use Rattle.cm_spec.specs.Lookup2.{words}
use Rattle.cm_brz_split.specs.Split.{AreSizes, CountsPassed, IsFirstOver, size_by_words, is_split}
use Rattle.cm_brz_func.specs.Splitting.{IsLowestOver, size_of_bucket}

-- of all keys these are left, and the others were counted by bucket
pub record AreCountedBut (sizes : List ℕ) (left all : List (ℕ × List ℕ)) (k s : ℕ) : Type 0 where
  pub each : (j : ℕ) → j < k → get_or sizes j 0 + size_of_bucket left k s j ≡ size_of_bucket all k s j

pub length_filter-cons : {X : Type 0} (p : X → Bool) (x : X) (xs : List X) → length (filter p (x ∷ xs)) ≡ cond (p x) 1 0 + length (filter p xs)
length_filter-cons p x xs = elim (p x) as (λ b. length (cond b (x ∷ filter p xs) (filter p xs)) ≡ cond b 1 0 + length (filter p xs)) [ true ↦ omega arith | false ↦ omega arith ]

-- one key more is counted
counted_one : (sizes : List ℕ) (j b n r a : ℕ) → b < length sizes → n ≡ get_or sizes b 0 + 1 → get_or sizes j 0 + (cond (eqb b j) 1 0 + r) ≡ a → get_or (set sizes b n) j 0 + r ≡ a
counted_one sizes j b n r a l e h = go (cases_Bool (eqb b j)) where
  go : (eqb b j ≡ true) ⊎ (eqb b j ≡ false) → get_or (set sizes b n) j 0 + r ≡ a
  go (inl t) =
      let same : b ≡ j = eqb-true b j t in
      let there : get_or (set sizes b n) j 0 ≡ n = get_or-set_at sizes b j n 0 (sym same) l in
      let here : get_or sizes b 0 ≡ get_or sizes j 0 = ap (λ (i : ℕ). get_or sizes i 0) same in
      let one : cond {A = ℕ} (eqb b j) 1 0 ≡ 1 = cond-true (eqb b j) 1 0 t in
      omega arith
  go (inr f) =
      let other : j ≢ b = λ q. eqb-false b j f (sym q) in
      let there : get_or (set sizes b n) j 0 ≡ get_or sizes j 0 = get_or-set_other sizes b j n 0 other in
      let none : cond {A = ℕ} (eqb b j) 1 0 ≡ 0 = cond-false (eqb b j) 1 0 f in
      omega arith

pub count_more : (sizes : List ℕ) (key : ℕ × List ℕ) (left rest all : List (ℕ × List ℕ)) (k s b n : ℕ) → AreCountedBut sizes left all k s → left ≡ key ∷ rest → b ≡ bucket_of key.1 s k → b < length sizes → n ≡ get_or sizes b 0 + 1 → AreCountedBut (set sizes b n) rest all k s
count_more sizes key left rest all k s b n h e is l m = record {
  each = λ j low.
      let more : size_of_bucket left k s j ≡ cond (eqb b j) 1 0 + size_of_bucket rest k s j = ap (λ (xs : List (ℕ × List ℕ)). size_of_bucket xs k s j) e ∙ (length_filter-cons (λ (x : ℕ × List ℕ). eqb (bucket_of x.1 s k) j) key rest ∙ ap (λ (v : ℕ). cond (eqb v j) 1 0 + size_of_bucket rest k s j) (sym is)) in
      counted_one sizes j b n (size_of_bucket rest k s j) (size_of_bucket all k s j) l m (ap (λ (x : ℕ). get_or sizes j 0 + x) (sym more) ∙ h.each j low);
}

-- one key more is counted, by its hash values
pub words_more : (sizes now : List ℕ) (all : List (List ℕ)) (i k b n : ℕ) (d : List ℕ) → ((j : ℕ) → j < k → get_or now j 0 ≡ get_or sizes j 0 + size_by_words (take i all) k j) → i < length all → b ≡ bucket_by (get_or all i d) k → b < length now → n ≡ get_or now b 0 + 1
    → (j : ℕ) → j < k → get_or (set now b n) j 0 ≡ get_or sizes j 0 + size_by_words (take (i + 1) all) k j
words_more sizes now all i k b n d h inside is l m j low =
    let test : List ℕ → ℕ = λ hashed. cond (eqb (bucket_by hashed k) j) 1 0 in
    let more : size_by_words (take (i + 1) all) k j ≡ size_by_words (take i all) k j + test (get_or all i d) = sum_by_more test all i d inside in
    let here : cond {A = ℕ} (eqb b j) 1 0 ≡ test (get_or all i d) = ap (λ (v : ℕ). cond {A = ℕ} (eqb v j) 1 0) is in
    let one : get_or (set now b n) j 0 + 0 ≡ get_or now j 0 + cond (eqb b j) 1 0 = counted_one now j b n 0 (get_or now j 0 + cond (eqb b j) 1 0) l m (omega arith) in
    omega (arith, h j low, more, here, one)

pub size_by_map : (keys : List (ℕ × List ℕ)) (k s j : ℕ) → size_by_words (map (λ (key : ℕ × List ℕ). words key.1 (flipped s)) keys) k j ≡ size_of_bucket keys k s j
size_by_map keys k s j =
    let hash : ℕ × List ℕ → List ℕ = λ key. words key.1 (flipped s) in
    let test : List ℕ → ℕ = λ hashed. cond (eqb (bucket_by hashed k) j) 1 0 in
    sym (sum-map test (map hash keys)) ∙ (ap sum (map-map test hash keys) ∙ (sum-map (λ (key : ℕ × List ℕ). test (hash key)) keys ∙ sym (length-filter (λ (key : ℕ × List ℕ). eqb (bucket_of key.1 s k) j) keys)))

-- keys that have passed are counted, by their hash values
pub passed_by_words : (sizes now : List ℕ) (keys left rest : List (ℕ × List ℕ)) (hashed : List (List ℕ)) (k s : ℕ) → left ≡ keys ++ rest → hashed ≡ map (λ (key : ℕ × List ℕ). words key.1 (flipped s)) keys
    → ((j : ℕ) → j < k → get_or now j 0 ≡ get_or sizes j 0 + size_by_words hashed k j) → CountsPassed sizes now left rest k s
passed_by_words sizes now keys left rest hashed k s e are each j low =
    let p : ℕ × List ℕ → Bool = λ key. eqb (bucket_of key.1 s k) j in
    let next : size_of_bucket left k s j ≡ size_of_bucket keys k s j + size_of_bucket rest k s j = ap (λ (xs : List (ℕ × List ℕ)). size_of_bucket xs k s j) e ∙ (ap length (filter-append p keys rest) ∙ length-append (filter p keys) (filter p rest)) in
    let same : size_by_words hashed k j ≡ size_of_bucket keys k s j = ap (λ (hs : List (List ℕ)). size_by_words hs k j) are ∙ size_by_map keys k s j in
    omega (arith, each j low, next, same)

pub count_passed : (sizes now : List ℕ) (left rest all : List (ℕ × List ℕ)) (k s : ℕ) → AreCountedBut sizes left all k s → CountsPassed sizes now left rest k s → AreCountedBut now rest all k s
count_passed sizes now left rest all k s h passed = record { each = λ j low. passed j low ∙ h.each j low }

-- of a bucket that has a key left not all keys were counted
pub counted_less : (sizes : List ℕ) (key : ℕ × List ℕ) (left rest all : List (ℕ × List ℕ)) (k s b : ℕ) → AreCountedBut sizes left all k s → left ≡ key ∷ rest → b ≡ bucket_of key.1 s k → b < k → get_or sizes b 0 < size_of_bucket all k s b
counted_less sizes key left rest all k s b h e is low = go (cases_Bool (eqb b b)) where
  go : (eqb b b ≡ true) ⊎ (eqb b b ≡ false) → get_or sizes b 0 < size_of_bucket all k s b
  go (inr f) = absurd (eqb-false b b f refl)
  go (inl t) =
      let more : size_of_bucket left k s b ≡ cond (eqb b b) 1 0 + size_of_bucket rest k s b = ap (λ (xs : List (ℕ × List ℕ)). size_of_bucket xs k s b) e ∙ (length_filter-cons (λ (x : ℕ × List ℕ). eqb (bucket_of x.1 s k) b) key rest ∙ ap (λ (v : ℕ). cond (eqb v b) 1 0 + size_of_bucket rest k s b) (sym is)) in
      let one : cond {A = ℕ} (eqb b b) 1 0 ≡ 1 = cond-true (eqb b b) 1 0 t in
      omega (arith, h.each b low, more, one)

pub get_or-zeros : (n j : ℕ) → ◌≡◌ {A = ℕ} (get_or (replicate n 0) j 0) 0
get_or-zeros zero j = refl
get_or-zeros (suc n) zero = refl
get_or-zeros (suc n) (suc j) = get_or-zeros n j

pub none_counted : (sizes : List ℕ) (all : List (ℕ × List ℕ)) (k s n : ℕ) → sizes ≡ replicate n 0 → AreCountedBut sizes all all k s
none_counted sizes all k s n e = record { each = λ j low. omega (arith, ap (λ (xs : List ℕ). get_or xs j 0) e, get_or-zeros n j) }

pub all_counted : (sizes : List ℕ) (left all : List (ℕ × List ℕ)) (k s : ℕ) → AreCountedBut sizes left all k s → left ≡ [] → AreSizes sizes all k s
all_counted sizes left all k s h e = λ j low. omega (arith, h.each j low, ap (λ (xs : List (ℕ × List ℕ)). size_of_bucket xs k s j) e)

-- the counts add up to how many keys were counted
pub sum_one_more : (sizes : List ℕ) (b n : ℕ) → b < length sizes → n ≡ get_or sizes b 0 + 1 → sum (set sizes b n) ≡ sum sizes + 1
sum_one_more sizes b n l e = omega (arith, sum_by-set (λ (x : ℕ). x) sizes b n 0 l)

pub sum_of_zeros : (sizes : List ℕ) (n : ℕ) → sizes ≡ replicate n 0 → sum sizes ≡ 0
sum_of_zeros sizes n e = ap sum e ∙ (sum_by-replicate (λ (x : ℕ). x) n 0 ∙ omega arith)

pub count_within : (sizes : List ℕ) (b : ℕ) → b < length sizes → get_or sizes b 0 ≤ sum sizes
count_within sizes b l = get_or-le-sum_by (λ (x : ℕ). x) sizes b 0 l

-- a seed splits the keys if no bucket has too many, and not if one has
pub splits : (keys : List (ℕ × List ℕ)) (k s : ℕ) → ((j : ℕ) → j < k → size_of_bucket keys k s j ≤ MAX_BUCKET) → is_split keys k s ≡ true
splits keys k s h = list_all-from_AllPass (λ (j : ℕ). leb (size_of_bucket keys k s j) MAX_BUCKET) (range_with_len 0 k) (λ i d l.
    let low : i < k = omega (arith, length-range_with_len 0 k) in
    let at : get_or (range_with_len 0 k) i d ≡ i = omega (arith, get_or-range_with_len 0 k i d low) in
    rw at (le-leb (size_of_bucket keys k s i) MAX_BUCKET (h i low)))

pub never_splits : (keys : List (ℕ × List ℕ)) (k s j : ℕ) → j < k → MAX_BUCKET < size_of_bucket keys k s j → is_split keys k s ≡ false
never_splits keys k s j low over =
    let at : get_or (range_with_len 0 k) j 0 ≡ j = omega (arith, get_or-range_with_len 0 k j 0 low) in
    let within : j < length (range_with_len 0 k) = omega (arith, length-range_with_len 0 k) in
    let here : leb (size_of_bucket keys k s j) MAX_BUCKET ≡ false = lt-leb (size_of_bucket keys k s j) MAX_BUCKET over in
    list_all_at (λ (i : ℕ). leb (size_of_bucket keys k s i) MAX_BUCKET) (range_with_len 0 k) j 0 within (rw at here)

-- what the counts show of the keys
pub lowest_over : (sizes : List ℕ) (keys : List (ℕ × List ℕ)) (k s bucket count : ℕ) → AreSizes sizes keys k s → length sizes ≡ k → IsFirstOver sizes bucket count → IsLowestOver keys k s bucket count
lowest_over sizes keys k s bucket count are long first =
    let within : bucket < k = omega (arith, first.within) in
    record {
      within = within;
      is = first.is ∙ are bucket within;
      over = first.over;
      lowest = λ j low. subst (λ (n : ℕ). n ≤ MAX_BUCKET) (are j (omega arith)) (first.lowest j low);
    }

pub over_never_splits : (keys : List (ℕ × List ℕ)) (k s bucket count : ℕ) → IsLowestOver keys k s bucket count → is_split keys k s ≡ false
over_never_splits keys k s bucket count h = never_splits keys k s bucket h.within (subst (λ (n : ℕ). MAX_BUCKET < n) h.is h.over)

pub none_over : (sizes : List ℕ) (keys : List (ℕ × List ℕ)) (k s : ℕ) → AreSizes sizes keys k s → length sizes ≡ k → ((j : ℕ) → j < length sizes → get_or sizes j 0 ≤ MAX_BUCKET) → is_split keys k s ≡ true
none_over sizes keys k s are long few = splits keys k s (λ j low. subst (λ (n : ℕ). n ≤ MAX_BUCKET) (are j low) (few j (omega arith)))

-- the first of a list that passes a test
pub find_first : (p : ℕ → Bool) (xs : List ℕ) (i : ℕ) → i < length xs → p (get_or xs i 0) ≡ true → ((j : ℕ) → j < i → p (get_or xs j 0) ≡ false) → find p xs ≡ Some (get_or xs i 0)
find_first p [] i l h b = absurd (omega arith)
find_first p (x ∷ xs) zero l h b = rw h refl
find_first p (x ∷ xs) (suc i) l h b = let f : p x ≡ false = b 0 (omega arith) in rw f (find_first p xs i (omega arith) h (λ j m. b (suc j) (omega arith)))

pub find_none : (p : ℕ → Bool) (xs : List ℕ) → ((j : ℕ) → j < length xs → p (get_or xs j 0) ≡ false) → find p xs ≡ None
find_none p [] b = refl
find_none p (x ∷ xs) b = let f : p x ≡ false = b 0 (omega arith) in rw f (find_none p xs (λ j m. b (suc j) (omega arith)))

-- keys have a bucket, and no more buckets than there are keys
pub some_buckets : (m b : ℕ) → 1 ≤ m → 1 ≤ b → 0 < bucket_count m b
some_buckets m b some wide =
    let enough : 1 * b ≤ m + (b - 1) = omega arith in
    let le : 1 ≤ (m + (b - 1)) / b = (le-div_iff_mul-le {k = b} {x = 1} {y = m + (b - 1)} wide).1 enough in
    omega arith

pub few_buckets : (m b : ℕ) → 1 ≤ m → 1 ≤ b → bucket_count m b ≤ m
few_buckets zero b some wide = absurd (omega arith)
few_buckets (suc n) b some wide = div-le_of_le-mul b (omega (arith, mul-le-mul_left n wide))
