-- What a build by BRZ gave or showed is what the definitions of specs/Found compute.
use Rattle.std.proofs.Common.{◌≡◌, ◌∙◌, ◌⊎◌, ℕ, zero, suc, ◌+◌, ◌<◌, Bool, true, false, not, List, [], ◌∷◌, length, get_or, eqb, leb, ltb, refl, sym, ap, inl, inr, arith, Option, None, Some, map}
use Rattle.std.specs.Prelude.{find, is_none, option_map, slice_index, unwrap_or}
use Rattle.std.specs.List.{list_all, range_with_len}
use Rattle.std.proofs.lemmas.Bool.{cases_Bool, leb-false, le-ltb, lt-ltb, true≢false}
use Rattle.std.proofs.lemmas.List.FromFn.{get_or-range_with_len, length-range_with_len}
use Rattle.std.proofs.lemmas.Option.{none-some}
use Rattle.cm_algo_names.specs.declared.algorithm.Algorithm.TheVariants as algorithm
use Rattle.cm_brz.specs.BrzOf.{IsBrzOf, bucket_from, bucket_under}
use Rattle.cm_brz.specs.Fails.{IsCoredBucket, IsOverfull}
use Rattle.cm_brz.specs.Found as found
use Rattle.cm_brz.specs.Found.{AllOverfull, bucket_at, brz_under, first_cored, first_overfull}
use Rattle.cm_brz_func.specs.Splitting.{keys_of_bucket, size_of_bucket}
use Rattle.cm_brz_split.specs.Split.{is_split, split_of}
use Rattle.cm_brz_split.specs.SizesLaws.{find_first, find_none}
use Rattle.cm_brz_func.specs.Functions.{Brz, Bucket, bucket_count, no_bucket}
use Rattle.cm_spec.specs.declared.limits.TheConstants.{MAX_BUCKET}
use Rattle.cm_peel.specs.CoreLaws.{left_after-zero}
use Rattle.cm_spec.specs.Bdz.{bdz_rule}
use Rattle.cm_spec.specs.Built.{first_seed, is_peeled}
use Rattle.cm_witness_gather.specs.Pairs.{pairs}
use Rattle.cm_witness_gather.specs.Reports.{overfull_text, report_text}
use Rattle.cm_witness_gather.specs.declared.certificate.Certificate.{Certificate}
use Rattle.cm_witness_gather.specs.declared.certificate.Pair.{Pair}

-- the number at a place of the numbers below k
number_at : (k i : ℕ) → i < k → get_or (range_with_len 0 k) i 0 ≡ i
number_at k i low = omega (arith, get_or-range_with_len 0 k i 0 low)

-- the first number below k that passes a test
found_at : (p : ℕ → Bool) (k j : ℕ) → j < k → p j ≡ true → ((i : ℕ) → i < j → p i ≡ false) → find p (range_with_len 0 k) ≡ Some j
found_at p k j low here before =
    find_first p (range_with_len 0 k) j (omega (arith, low, length-range_with_len 0 k)) (ap p (number_at k j low) ∙ here) (λ i l. ap p (number_at k i (omega (arith, l, low))) ∙ before i l)
    ∙ ap (λ (x : ℕ). let o : Option ℕ = Some x in o) (number_at k j low)

found_none : (p : ℕ → Bool) (k : ℕ) → ((i : ℕ) → i < k → p i ≡ false) → find p (range_with_len 0 k) ≡ None
found_none p k none = find_none p (range_with_len 0 k) (λ i l.
    let low : i < k = omega (arith, l, length-range_with_len 0 k) in
    ap p (number_at k i low) ∙ none i low)

-- a list of which each element is a function of its place
map_is : (f : ℕ → Bucket) (xs : List Bucket) (a : ℕ) → ((j : ℕ) → j < length xs → get_or xs j no_bucket ≡ f (a + j)) → xs ≡ map f (range_with_len a (length xs))
map_is f [] a each = refl
map_is f (x ∷ xs) a each =
    let here : x ≡ f a = each 0 (omega arith) ∙ ap f (omega arith) in
    let rest : xs ≡ map f (range_with_len (a + 1) (length xs)) = map_is f xs (a + 1) (λ j l. each (suc j) (omega arith) ∙ ap f (omega arith)) in
    ap (λ (y : Bucket). y ∷ xs) here ∙ ap (λ (ys : List Bucket). f a ∷ ys) rest

-- the buckets of a function are those of its keys
buckets_are : (keys : List (ℕ × List ℕ)) (c b : ℕ) (seeds : List ℕ) (f : Brz) → IsBrzOf keys c b seeds f
    → f.buckets ≡ map (bucket_at keys (bucket_count (length keys) b) c f.split seeds) (range_with_len 0 (bucket_count (length keys) b))
buckets_are keys c b seeds f of =
    map_is (bucket_at keys (length f.buckets) c f.split seeds) f.buckets 0 (λ j l. sym (ap (λ (o : Option Bucket). unwrap_or o no_bucket) (of.each j l)) ∙ ap (bucket_at keys (length f.buckets) c f.split seeds) (omega arith))
    ∙ ap (λ (k : ℕ). map (bucket_at keys k c f.split seeds) (range_with_len 0 k)) of.count

-- a function by BRZ is the one that is computed
pub function_is : (keys : List (ℕ × List ℕ)) (c b : ℕ) (seeds : List ℕ) (f : Brz) → IsBrzOf keys c b seeds f → f ≡ brz_under keys c b f.split seeds
function_is keys c b seeds f of =
    ap (λ (x : ℕ). let g : Brz = record { keys = x; ratio = f.ratio; width = f.width; split = f.split; buckets = f.buckets } in g) of.many
    ∙ ap (λ (x : ℕ). let g : Brz = record { keys = length keys; ratio = x; width = f.width; split = f.split; buckets = f.buckets } in g) of.ratio
    ∙ ap (λ (x : ℕ). let g : Brz = record { keys = length keys; ratio = c; width = x; split = f.split; buckets = f.buckets } in g) of.width
    ∙ ap (λ (xs : List Bucket). let g : Brz = record { keys = length keys; ratio = c; width = b; split = f.split; buckets = xs } in g) (buckets_are keys c b seeds f of)

-- no bucket of it lacks a seed
pub none_cored : (keys : List (ℕ × List ℕ)) (c b : ℕ) (seeds : List ℕ) (f : Brz) → IsBrzOf keys c b seeds f → first_cored keys (bucket_count (length keys) b) c f.split seeds ≡ None
none_cored keys c b seeds f of =
    ap (λ (k : ℕ). first_cored keys k c f.split seeds) (sym of.count)
    ∙ found_none (λ j. is_none (bucket_from (keys_of_bucket keys (length f.buckets) f.split j) c seeds)) (length f.buckets) (λ j l. ap (λ (o : Option Bucket). is_none o) (of.each j l))

-- the bucket of a report on an overfull one is the lowest
pub overfull_is : (keys : List (ℕ × List ℕ)) (k : ℕ) (seeds : List ℕ) (seed bucket count : ℕ) (equal : List Pair) → IsOverfull keys k seeds seed bucket count equal → first_overfull keys k seed ≡ Some bucket
overfull_is keys k seeds seed bucket count equal over =
    let low = over.lowest in
    found_at (λ j. ltb MAX_BUCKET (size_of_bucket keys k seed j)) k bucket low.within
    (lt-ltb MAX_BUCKET (size_of_bucket keys k seed bucket) (omega (arith, low.is, low.over)))
    (λ j l. le-ltb MAX_BUCKET (size_of_bucket keys k seed j) (low.lowest j l))

-- and its text is the report
pub overfull_shown : (keys : List (ℕ × List ℕ)) (k : ℕ) (seeds : List ℕ) (seed bucket count : ℕ) (equal : List Pair) → IsOverfull keys k seeds seed bucket count equal → overfull_text seed bucket count equal ≡ found.overfull_report keys k seeds
unfolding found.overfull_report
overfull_shown keys k seeds seed bucket count equal over =
    let text : ℕ → ℕ → List ℕ = λ (s j : ℕ). overfull_text s j (size_of_bucket keys k s j) (pairs (keys_of_bucket keys k s j)) in
    let lowest : bucket ≡ unwrap_or (first_overfull keys k seed) 0 = sym (ap (λ (o : Option ℕ). unwrap_or o 0) (overfull_is keys k seeds seed bucket count equal over)) in
    ap (λ (n : ℕ). overfull_text seed bucket n equal) over.lowest.is
    ∙ (ap (overfull_text seed bucket (size_of_bucket keys k seed bucket)) over.equal_are
    ∙ (ap (text seed) lowest ∙ ap (λ (s : ℕ). text s (unwrap_or (first_overfull keys k s) 0)) over.first))

-- for no keys the first seed works
no_first : (c : ℕ) (seeds : List ℕ) → 0 < length seeds → first_seed bdz_rule [] c seeds ≡ None → ⊥
no_first c [] some none = absurd (omega arith)
no_first c (s ∷ seeds) some none =
    let peeled : is_peeled bdz_rule [] c s ≡ true = ap (λ (xs : List ℕ). eqb (length xs) 0) (left_after-zero []) in
    none-some s (sym (rw peeled at none))

cored_none : (keys : List (ℕ × List ℕ)) (c : ℕ) (seeds : List ℕ) → 0 < length seeds → first_seed bdz_rule keys c seeds ≡ None → is_none (bucket_from keys c seeds) ≡ true
cored_none [] c seeds some none = absurd (no_first c seeds some none)
cored_none (x ∷ xs) c seeds some none = ap (λ (o : Option ℕ). is_none (option_map (bucket_under (x ∷ xs) c) o)) none

-- the bucket of a certificate is the lowest for which no seed works
pub cored_is : (keys : List (ℕ × List ℕ)) (k c : ℕ) (seeds : List ℕ) (made : Certificate) → 0 < length seeds → (cored : IsCoredBucket keys k c seeds made) → first_cored keys k c cored.place.split seeds ≡ Some cored.place.bucket
cored_is keys k c seeds made some cored =
    let split : ℕ = cored.place.split in
    found_at (λ j. is_none (bucket_from (keys_of_bucket keys k split j) c seeds)) k cored.place.bucket cored.within
    (cored_none (keys_of_bucket keys k split cored.place.bucket) c seeds some cored.cored.none)
    (λ j l. ap not (cored.earlier j l))

-- and its text is the report
pub cored_shown : (keys : List (ℕ × List ℕ)) (k c : ℕ) (seeds : List ℕ) (made : Certificate) → made.algorithm ≡ algorithm.Brz → made.seed ≡ slice_index seeds 0 → (cored : IsCoredBucket keys k c seeds made)
    → report_text made.algorithm made.place made.seed made.edges.items made.equal.items ≡ found.bucket_report keys k c cored.place.split cored.place.bucket seeds
unfolding found.bucket_report
cored_shown keys k c seeds made by seed cored = rw (by, cored.cored.shown, seed, cored.cored.shows.edges, cored.cored.shows.equal) refl

-- a test that not all numbers pass fails at one of them
abbrev FailsAt : (ℕ → Bool) → ℕ → ℕ → Type 0
FailsAt p a n = (j : ℕ) × (j < a + n) × (p j ≡ false)

fails_at : (p : ℕ → Bool) (a n : ℕ) → list_all p (range_with_len a n) ≡ false → FailsAt p a n
fails_at p a zero fails = absurd (true≢false fails)
fails_at p a (suc n) fails = go (cases_Bool (p a)) (λ t. fails_at p (a + 1) n (rw t at fails)) where
  go : (p a ≡ true) ⊎ (p a ≡ false) → (p a ≡ true → FailsAt p (a + 1) n) → FailsAt p a (suc n)
  go (inl t) later = let found = later t in (found.0, omega (arith, found.1), found.2)
  go (inr f) later = (a, omega arith, f)

-- each element fails a test that none passes
abbrev NonePasses : (ℕ → Bool) → List ℕ → Type 0
NonePasses p xs = (i : ℕ) → i < length xs → p (get_or xs i 0) ≡ false

none_passes : (p : ℕ → Bool) (xs : List ℕ) → find p xs ≡ None → NonePasses p xs
none_passes p [] none = λ i l. absurd (omega arith)
none_passes p (x ∷ xs) none = go (cases_Bool (p x)) (λ f. none_passes p xs (rw f at none)) where
  at_each : p x ≡ false → NonePasses p xs → NonePasses p (x ∷ xs)
  at_each f later zero l = f
  at_each f later (suc i) l = later i (omega arith)

  go : (p x ≡ true) ⊎ (p x ≡ false) → (p x ≡ false → NonePasses p xs) → NonePasses p (x ∷ xs)
  go (inl t) later = absurd (none-some x (sym (rw t at none)))
  go (inr f) later = at_each f (later f)

-- if no seed splits the keys, each leaves an overfull bucket
pub all_overfull : (keys : List (ℕ × List ℕ)) (k : ℕ) (seeds : List ℕ) → split_of keys k seeds ≡ None → AllOverfull keys k seeds
all_overfull keys k seeds none = λ i l.
    let seed : ℕ = get_or seeds i 0 in
    let over = fails_at (λ j. leb (size_of_bucket keys k seed j) MAX_BUCKET) 0 k (none_passes (is_split keys k) seeds none i l) in
    let more = leb-false (size_of_bucket keys k seed over.0) MAX_BUCKET over.2 in
    (over.0, omega (arith, over.1), omega (arith, more))
