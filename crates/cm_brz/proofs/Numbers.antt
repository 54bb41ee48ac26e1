-- The numbers of a function's keys are distinct, and below the number of keys.
use Rattle.std.proofs.Common.{◌≡◌, ◌≢◌, ◌∙◌, ◌⊎◌, ℕ, zero, suc, ◌+◌, ◌-◌, ◌*◌, ◌/◌, ◌<◌, ◌≤◌, Bool, true, false, cond, List, [], ◌∷◌, length, get_or, take, eqb, refl, sym, ap, subst, inl, inr, arith, Option, None, Some}
use Rattle.std.specs.Prelude.{filter, option_map}
use Rattle.std.specs.List.{range_with_len, sum_by}
use Rattle.std.proofs.Math.Nat.{le-div_iff_mul-le}
use Rattle.std.proofs.lemmas.Bool.{cases_eq, cases_order, cond-true, cond-false, eq-eqb, ne_eqb}
use Rattle.std.proofs.lemmas.List.{take-take}
use Rattle.std.proofs.lemmas.List.Sums.{sum_by-cons, sum_by-take-le, sum_by_more}
use Rattle.cm_bdz.specs.Functions.{bdz_answer, chosen_of, ranked}
use Rattle.cm_bdz.specs.Numbering.{AnswersApart, bdz_under}
use Rattle.cm_brz.specs.BrzOf.{IsBrzOf, bucket_from, bucket_under}
use Rattle.cm_brz_func.specs.Splitting.{keys_of_bucket, size_of_bucket}
use Rattle.cm_brz_func.specs.Functions.{Brz, Bucket, answer_in, answer_of_bucket, brz_answer, bucket_count, bucket_of, keys_in, no_bucket, offset_of}
use Rattle.cm_spec.specs.Bdz.{bdz_rule}
use Rattle.cm_spec.specs.Built.{IsFirst, cells_under, first_seed, graph_of, key_at}
use Rattle.cm_spec.specs.Rounds.{rest_of}
use Rattle.cm_spec.specs.Rule.{IsCount}
use Rattle.cm_peel.specs.CoreLaws.{empty_rest}
use Rattle.cm_brz_split.specs.SizesLaws.{length_filter-cons, some_buckets}
use Rattle.cm_spec.specs.declared.limits.TheConstants.{MAX_EDGES}

-- of n numbers from a on, one is b if b is among them, and else none
count_past : (b a n : ℕ) → b < a → sum_by (λ (j : ℕ). cond (eqb b j) 1 0) (range_with_len a n) ≡ 0
count_past b a zero h = refl
count_past b a (suc n) h =
    let no : cond {A = ℕ} (eqb b a) 1 0 ≡ 0 = cond-false (eqb b a) 1 0 (ne_eqb b a (λ e. absurd (omega arith))) in
    omega (arith, sum_by-cons (λ (j : ℕ). cond (eqb b j) 1 0) a (range_with_len (a + 1) n), count_past b (a + 1) n (omega arith))

one_past : (b a : ℕ) → a ≤ b → (b ≡ a → ⊥) → a + 1 ≤ b
one_past b a l f = omega arith

count_among : (b a n : ℕ) → a ≤ b → b < a + n → sum_by (λ (j : ℕ). cond (eqb b j) 1 0) (range_with_len a n) ≡ 1
count_among b a zero l h = absurd (omega arith)
count_among b a (suc n) l h = go (cases_eq b a) (λ past. count_among b (a + 1) n past (omega arith)) where
  go : (b ≡ a) ⊎ (b ≡ a → ⊥) → (a + 1 ≤ b → sum_by (λ (j : ℕ). cond (eqb b j) 1 0) (range_with_len (a + 1) n) ≡ 1) → sum_by (λ (j : ℕ). cond (eqb b j) 1 0) (range_with_len a (suc n)) ≡ 1
  go (inl e) later =
      let yes_one : cond {A = ℕ} (eqb b a) 1 0 ≡ 1 = cond-true (eqb b a) 1 0 (eq-eqb b a e) in
      omega (arith, sum_by-cons (λ (j : ℕ). cond (eqb b j) 1 0) a (range_with_len (a + 1) n), count_past b (a + 1) n (omega arith))
  go (inr f) later =
      let no : cond {A = ℕ} (eqb b a) 1 0 ≡ 0 = cond-false (eqb b a) 1 0 (ne_eqb b a f) in
      let past : a + 1 ≤ b = one_past b a l f in
      omega (arith, sum_by-cons (λ (j : ℕ). cond (eqb b j) 1 0) a (range_with_len (a + 1) n), later past)

sum_of_sums : (f g h : ℕ → ℕ) → ((j : ℕ) → f j ≡ g j + h j) → (xs : List ℕ) → sum_by f xs ≡ sum_by g xs + sum_by h xs
sum_of_sums f g h each [] = refl
sum_of_sums f g h each (x ∷ xs) = omega (arith, sum_by-cons f x xs, sum_by-cons g x xs, sum_by-cons h x xs, each x, sum_of_sums f g h each xs)

sum_of_none : (xs : List ℕ) → sum_by (λ (j : ℕ). 0) xs ≡ 0
sum_of_none [] = refl
sum_of_none (x ∷ xs) = omega (arith, sum_by-cons (λ (j : ℕ). 0) x xs, sum_of_none xs)

-- every key lies in one bucket
pub sizes_add_up : (keys : List (ℕ × List ℕ)) (k s : ℕ) → 0 < k → sum_by (size_of_bucket keys k s) (range_with_len 0 k) ≡ length keys
sizes_add_up [] k s some = sum_of_none (range_with_len 0 k)
sizes_add_up (x ∷ xs) k s some =
    let b : ℕ = bucket_of x.1 s k in
    let low : b < k = omega arith in
    let here : sum_by (λ (j : ℕ). cond (eqb b j) 1 0) (range_with_len 0 k) ≡ 1 = count_among b 0 k (omega arith) (omega arith) in
    let split : sum_by (size_of_bucket (x ∷ xs) k s) (range_with_len 0 k) ≡ sum_by (λ (j : ℕ). cond (eqb b j) 1 0) (range_with_len 0 k) + sum_by (size_of_bucket xs k s) (range_with_len 0 k) = sum_of_sums (size_of_bucket (x ∷ xs) k s) (λ (j : ℕ). cond (eqb b j) 1 0) (size_of_bucket xs k s) (λ j. length_filter-cons (λ (y : ℕ × List ℕ). eqb (bucket_of y.1 s k) j) x xs) (range_with_len 0 k) in
    omega (arith, sizes_add_up xs k s some)

-- a sum over a list by its places
sum_by_places : (sizes : Bucket → ℕ) (g : ℕ → ℕ) (xs : List Bucket) (a : ℕ) → ((j : ℕ) → j < length xs → sizes (get_or xs j no_bucket) ≡ g (a + j)) → sum_by sizes xs ≡ sum_by g (range_with_len a (length xs))
sum_by_places sizes g [] a each = refl
sum_by_places sizes g (x ∷ xs) a each =
    let here : sizes x ≡ g a = each 0 (omega arith) ∙ ap g (omega arith) in
    omega (arith, sum_by-cons sizes x xs, sum_by-cons g a (range_with_len (a + 1) (length xs)), sum_by_places sizes g xs (a + 1) (λ j l. each (suc j) (omega arith) ∙ ap g (omega arith)))

-- what a bucket of a function is
pub record IsBucketOf (kb : List (ℕ × List ℕ)) (c : ℕ) (seeds : List ℕ) (bucket : Bucket) : Type 0 where
  pub size : bucket.size ≡ length kb
  pub built : kb ≢ [] → bucket ≡ bucket_under kb c bucket.seed

under_some : (kb : List (ℕ × List ℕ)) (c : ℕ) (seed : Option ℕ) (bucket : Bucket) → option_map (bucket_under kb c) seed ≡ Some bucket → bucket ≡ bucket_under kb c bucket.seed
under_some kb c None bucket e = cc
under_some kb c (Some seed) bucket e =
    let is : bucket_under kb c seed ≡ bucket = cc in
    let same : seed ≡ bucket.seed = ap (λ (x : Bucket). x.seed) is in
    sym is ∙ ap (bucket_under kb c) same

pub bucket_is : (kb : List (ℕ × List ℕ)) (c : ℕ) (seeds : List ℕ) (bucket : Bucket) → bucket_from kb c seeds ≡ Some bucket → IsBucketOf kb c seeds bucket
bucket_is [] c seeds bucket e =
    let is : no_bucket ≡ bucket = cc in
    record { size = sym (ap (λ (x : Bucket). x.size) is); built = λ some. absurd (some refl) }
bucket_is (x ∷ xs) c seeds bucket e =
    let is : bucket ≡ bucket_under (x ∷ xs) c bucket.seed = under_some (x ∷ xs) c (first_seed bdz_rule (x ∷ xs) c seeds) bucket e in
    record { size = ap (λ (y : Bucket). y.size) is; built = λ _. is }

-- the buckets have all of the keys
pub all_in_buckets : (keys : List (ℕ × List ℕ)) (c b : ℕ) (seeds : List ℕ) (f : Brz) → IsBrzOf keys c b seeds f → 0 < length f.buckets → keys_in f.buckets ≡ length keys
all_in_buckets keys c b seeds f of some =
    let k : ℕ = length f.buckets in
    sum_by_places (λ (x : Bucket). x.size) (size_of_bucket keys k f.split) f.buckets 0
    (λ j l. (bucket_is (keys_of_bucket keys k f.split j) c seeds (get_or f.buckets j no_bucket) (of.each j l)).size ∙ ap (size_of_bucket keys k f.split) (omega arith))
    ∙ sizes_add_up keys k f.split some

-- a key that passes a test stands among those that do, after as many as passed before it
pub filter_at : (p : ℕ × List ℕ → Bool) (xs : List (ℕ × List ℕ)) (i : ℕ) (d : ℕ × List ℕ) → i < length xs → p (get_or xs i d) ≡ true → (length (filter p (take i xs)) < length (filter p xs)) × (get_or (filter p xs) (length (filter p (take i xs))) d ≡ get_or xs i d)
filter_at p [] i d l h = absurd (omega arith)
filter_at p (x ∷ xs) zero d l h = rw h (omega arith, refl)
filter_at p (x ∷ xs) (suc i) d l h =
    let ih : (length (filter p (take i xs)) < length (filter p xs)) × (get_or (filter p xs) (length (filter p (take i xs))) d ≡ get_or xs i d) = filter_at p xs i d (omega arith) h in
    elim (p x) as (λ b. (length (cond b (x ∷ filter p (take i xs)) (filter p (take i xs))) < length (cond b (x ∷ filter p xs) (filter p xs))) × (get_or (cond b (x ∷ filter p xs) (filter p xs)) (length (cond b (x ∷ filter p (take i xs)) (filter p (take i xs)))) d ≡ get_or xs i d)) [ true ↦ (omega (arith, ih.0), ih.1) | false ↦ ih ]

-- as many pass before a later place as before an earlier one, and one more if that one passes
passes_rise : (p : ℕ × List ℕ → Bool) (xs : List (ℕ × List ℕ)) (i j : ℕ) (d : ℕ × List ℕ) → i < j → j ≤ length xs → p (get_or xs i d) ≡ true → length (filter p (take i xs)) < length (filter p (take j xs))
passes_rise p [] i j d l m h = absurd (omega arith)
passes_rise p (x ∷ xs) i zero d l m h = absurd (omega arith)
passes_rise p (x ∷ xs) zero (suc j) d l m h = rw h (omega arith)
passes_rise p (x ∷ xs) (suc i) (suc j) d l m h =
    let ih : length (filter p (take i xs)) < length (filter p (take j xs)) = passes_rise p xs i j d (omega arith) (omega arith) h in
    elim (p x) as (λ b. length (cond b (x ∷ filter p (take i xs)) (filter p (take i xs))) < length (cond b (x ∷ filter p (take j xs)) (filter p (take j xs)))) [ true ↦ omega (arith, ih) | false ↦ ih ]

same_place : (p : ℕ × List ℕ → Bool) (xs : List (ℕ × List ℕ)) (i j : ℕ) (d : ℕ × List ℕ) → i < length xs → j < length xs → p (get_or xs i d) ≡ true → p (get_or xs j d) ≡ true → length (filter p (take i xs)) ≡ length (filter p (take j xs)) → i ≡ j
same_place p xs i j d l m h g e = go (cases_order i j) where
  go : (i ≡ j) ⊎ ((i < j) ⊎ (j < i)) → i ≡ j
  go (inl same) = same
  go (inr (inl low)) = absurd (omega (arith, passes_rise p xs i j d low (omega arith) h))
  go (inr (inr high)) = absurd (omega (arith, passes_rise p xs j i d high (omega arith) g))

-- the numbers of a bucket end where those of a later one may begin
offsets_rise : (xs : List Bucket) (i j : ℕ) → i < j → j ≤ length xs → offset_of xs i + (get_or xs i no_bucket).size ≤ offset_of xs j
offsets_rise xs i j l m =
    omega (arith, sum_by_more (λ (x : Bucket). x.size) xs i no_bucket (omega arith), sum_by-take-le (λ (x : Bucket). x.size) (take j xs) (i + 1), ap keys_in (take-take (i + 1) j xs (omega arith)))

offset_within : (xs : List Bucket) (j : ℕ) → j < length xs → offset_of xs j + (get_or xs j no_bucket).size ≤ keys_in xs
offset_within xs j l =
    omega (arith, sum_by_more (λ (x : Bucket). x.size) xs j no_bucket l, sum_by-take-le (λ (x : Bucket). x.size) xs (j + 1))

apart_same : (keys : List (ℕ × List ℕ)) (f g : List ℕ → Option ℕ) (n : ℕ) → ((key : List ℕ) → f key ≡ g key) → AnswersApart keys f n → AnswersApart keys g n
apart_same keys f g n same h = record {
  below = λ i l. (let b = h.below i l in (b.0, sym (same (key_at keys i)) ∙ b.1, b.2));
  apart = λ i j a b e. h.apart i j a b (same (key_at keys i) ∙ (e ∙ sym (same (key_at keys j))));
}

-- the functions by BDZ of keys, as a law of theirs has it
abbrev pub BucketsApart : ℕ → Type 0
BucketsApart c = (kb : List (ℕ × List ℕ)) (seed : ℕ) → IsCount (length kb) → rest_of (graph_of bdz_rule kb c seed) ≡ [] → AnswersApart kb (bdz_answer (bdz_under kb c seed 0)) (length kb)

filter_within : (p : ℕ × List ℕ → Bool) (xs : List (ℕ × List ℕ)) → length (filter p xs) ≤ length xs
filter_within p [] = omega arith
filter_within p (x ∷ xs) = elim (p x) as (λ b. length (cond b (x ∷ filter p xs) (filter p xs)) ≤ suc (length xs)) [ true ↦ omega (arith, filter_within p xs) | false ↦ omega (arith, filter_within p xs) ]

-- the keys of a bucket have the numbers below its size
bucket_apart : (kb : List (ℕ × List ℕ)) (c place : ℕ) (seeds : List ℕ) (bucket : Bucket) → BucketsApart c → IsBucketOf kb c seeds bucket → IsFirst bdz_rule kb c seeds place bucket.seed → 0 < length kb → length kb ≤ MAX_EDGES → AnswersApart kb (answer_in bucket) (length kb)
bucket_apart kb c place seeds bucket apart of first some few =
    let is : bucket ≡ bucket_under kb c bucket.seed = of.built (λ none. absurd (omega (arith, some, ap length none))) in
    let cells : bucket.cells ≡ cells_under bdz_rule kb c bucket.seed = ap (λ (x : Bucket). x.cells) is in
    let full : eqb bucket.size 0 ≡ false = ne_eqb bucket.size 0 (λ e. absurd (omega (arith, of.size))) in
    apart_same kb (bdz_answer (bdz_under kb c bucket.seed 0)) (answer_in bucket) (length kb)
    (λ key. ap (λ (cs : List ℕ). ranked cs (chosen_of cs key bucket.seed)) (sym cells) ∙ sym (cond-false (eqb bucket.size 0) None (ranked bucket.cells (chosen_of bucket.cells key bucket.seed)) full))
    (apart kb bucket.seed (some, few) (empty_rest (graph_of bdz_rule kb c bucket.seed) first.empty))

-- the numbers of the keys of bucket j within it
record AreNumbered (keys : List (ℕ × List ℕ)) (f : Brz) (j : ℕ) : Type 0 where
  each : (i : ℕ) → i < length keys → bucket_of (key_at keys i) f.split (length f.buckets) ≡ j → (n : ℕ) × (answer_in (get_or f.buckets j no_bucket) (key_at keys i) ≡ Some n) × (n < (get_or f.buckets j no_bucket).size)
  apart : (i h : ℕ) → i < length keys → h < length keys → bucket_of (key_at keys i) f.split (length f.buckets) ≡ j → bucket_of (key_at keys h) f.split (length f.buckets) ≡ j → answer_in (get_or f.buckets j no_bucket) (key_at keys i) ≡ answer_in (get_or f.buckets j no_bucket) (key_at keys h) → i ≡ h

are_numbered : (keys : List (ℕ × List ℕ)) (c b : ℕ) (seeds : List ℕ) (f : Brz) (j : ℕ) → BucketsApart c → IsBrzOf keys c b seeds f → length keys ≤ MAX_EDGES → j < length f.buckets → AreNumbered keys f j
are_numbered keys c b seeds f j apart of few low =
    let k : ℕ = length f.buckets in
    let p : ℕ × List ℕ → Bool = λ (x : ℕ × List ℕ). eqb (bucket_of x.1 f.split k) j in
    let kb : List (ℕ × List ℕ) = keys_of_bucket keys k f.split j in
    let bucket : Bucket = get_or f.buckets j no_bucket in
    let is : IsBucketOf kb c seeds bucket = bucket_is kb c seeds bucket (of.each j low) in
    let within : length kb ≤ length keys = filter_within p keys in
    let those : 0 < length kb → AnswersApart kb (answer_in bucket) (length kb) = λ some. (let first = of.first j low (λ none. absurd (omega (arith, some, ap length none))) in bucket_apart kb c first.0 seeds bucket apart is first.1 some (omega arith)) in
    let at : (i : ℕ) → i < length keys → bucket_of (key_at keys i) f.split k ≡ j → (length (filter p (take i keys)) < length kb) × (get_or kb (length (filter p (take i keys))) (0, []) ≡ get_or keys i (0, [])) = λ i l e. filter_at p keys i (0, []) l (eq-eqb (bucket_of (key_at keys i) f.split k) j e) in
    record {
      each = λ i l e.
          (let spot = at i l e in
          let number = (those (omega (arith, spot.0))).below (length (filter p (take i keys))) spot.0 in
          (number.0, ap (answer_in bucket) (sym (ap (λ (x : ℕ × List ℕ). x.1) spot.1)) ∙ number.1, omega (arith, number.2, is.size)));
      apart = λ i h l m e d same.
          (let spot = at i l e in
          let other = at h m d in
          same_place p keys i h (0, []) l m (eq-eqb _ j e) (eq-eqb _ j d)
          ((those (omega (arith, spot.0))).apart (length (filter p (take i keys))) (length (filter p (take h keys))) spot.0 other.0
          (ap (answer_in bucket) (ap (λ (x : ℕ × List ℕ). x.1) spot.1) ∙ (same ∙ ap (answer_in bucket) (sym (ap (λ (x : ℕ × List ℕ). x.1) other.1))))));
    }

-- a key's number in all: that within its bucket, after those of the buckets before
answered : (f : Brz) (key : List ℕ) (j n : ℕ) → bucket_of key f.split (length f.buckets) ≡ j → answer_in (get_or f.buckets j no_bucket) key ≡ Some n → brz_answer f key ≡ Some (offset_of f.buckets j + n)
answered f key j n e is = ap (λ (x : ℕ). answer_of_bucket f x key) e ∙ ap (option_map (λ (r : ℕ). offset_of f.buckets j + r)) is

some_is : (a b : ℕ) → Some a ≡ Some b → a ≡ b
some_is a b e = cc

-- if the numbers of two keys are the same, so are their buckets
same_bucket : (xs : List Bucket) (i j n m : ℕ) → i < length xs → j < length xs → n < (get_or xs i no_bucket).size → m < (get_or xs j no_bucket).size → offset_of xs i + n ≡ offset_of xs j + m → i ≡ j
same_bucket xs i j n m l h a b e = go (cases_order i j) where
  go : (i ≡ j) ⊎ ((i < j) ⊎ (j < i)) → i ≡ j
  go (inl same) = same
  go (inr (inl low)) = absurd (omega (arith, offsets_rise xs i j low (omega arith)))
  go (inr (inr high)) = absurd (omega (arith, offsets_rise xs j i high (omega arith)))

pub some_keys : (m b j : ℕ) → 1 ≤ b → j < bucket_count m b → 1 ≤ m
some_keys zero b j wide low =
    let le : 1 ≤ (0 + (b - 1)) / b = omega (arith, low) in
    let enough : 1 * b ≤ 0 + (b - 1) = (le-div_iff_mul-le {k = b} {x = 1} {y = 0 + (b - 1)} wide).0 le in
    absurd (omega (arith, enough, wide))
some_keys (suc m) b j wide low = omega arith

pub numbers_apart : (keys : List (ℕ × List ℕ)) (c b : ℕ) (seeds : List ℕ) (f : Brz) → BucketsApart c → IsBrzOf keys c b seeds f → 1 ≤ length keys → length keys ≤ MAX_EDGES → 1 ≤ b → AnswersApart keys (brz_answer f) (length keys)
numbers_apart keys c b seeds f apart of some few wide =
    let k : ℕ = length f.buckets in
    let buckets : 0 < k = subst (λ (n : ℕ). 0 < n) (sym of.count) (some_buckets (length keys) b some wide) in
    let low : (i : ℕ) → bucket_of (key_at keys i) f.split k < k = λ i. omega arith in
    let numbered : (j : ℕ) → j < k → AreNumbered keys f j = λ j l. are_numbered keys c b seeds f j apart of few l in
    let all : keys_in f.buckets ≡ length keys = all_in_buckets keys c b seeds f of buckets in
    record {
      below = λ i l.
          (let j : ℕ = bucket_of (key_at keys i) f.split k in
          let n = (numbered j (low i)).each i l refl in
          (offset_of f.buckets j + n.0, answered f (key_at keys i) j n.0 refl n.1, omega (arith, n.2, offset_within f.buckets j (low i))));
      apart = λ i h l m e.
          (let j : ℕ = bucket_of (key_at keys i) f.split k in
          let g : ℕ = bucket_of (key_at keys h) f.split k in
          let n = (numbered j (low i)).each i l refl in
          let o = (numbered g (low h)).each h m refl in
          let sums : offset_of f.buckets j + n.0 ≡ offset_of f.buckets g + o.0 = some_is _ _ (sym (answered f (key_at keys i) j n.0 refl n.1) ∙ (e ∙ answered f (key_at keys h) g o.0 refl o.1)) in
          let same : j ≡ g = same_bucket f.buckets j g n.0 o.0 (low i) (low h) n.2 o.2 sums in
          let numbers : n.0 ≡ o.0 = omega (arith, sums, ap (offset_of f.buckets) same) in
          (numbered g (low h)).apart i h l m same refl
          (ap (λ (x : ℕ). answer_in (get_or f.buckets x no_bucket) (key_at keys i)) (sym same) ∙ (n.1 ∙ (ap (λ (x : ℕ). Some x) numbers ∙ sym o.1))));
    }
