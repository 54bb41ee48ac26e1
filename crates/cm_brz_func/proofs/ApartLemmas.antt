-- The keys of all buckets get numbers of their own.
use Rattle.std.proofs.Common.{◌≡◌, ◌∙◌, ◌⊎◌, ℕ, suc, ◌+◌, ◌<◌, ◌≤◌, List, [], ◌∷◌, ◌++◌, length, take, drop, get_or, inl, inr, ap, sym, refl, arith, length-append, cond, eqb, true, Bool, Some}
use Rattle.std.specs.Prelude.{slice_index_or, option_map, filter}
use Rattle.std.proofs.lemmas.Bool.{cases_lt, eq-eqb}
use Rattle.std.proofs.lemmas.List.{take-append-drop, take-take}
use Rattle.std.proofs.lemmas.List.Elements.{filter-append}
use Rattle.std.proofs.lemmas.List.Filters.{length-filter_more}
use Rattle.std.proofs.lemmas.List.Sums.{sum_by_more, sum_by_more_le, sum_by-take-le, length-filter}
use Rattle.std.proofs.lemmas.Nat.{mod_below}
use Rattle.std.proofs.Math.Seq.{get_or-append_seam, drop-cons}
use Rattle.std.specs.List.{count_by}
use Rattle.cm_bdz.specs.Numbering.{AnswersApart}
use Rattle.cm_spec.specs.Built.{key_at}
use Rattle.cm_brz_func.specs.Functions.{Brz, Bucket, answer_in, brz_answer, bucket_of, keys_in, no_bucket, offset_of}
use Rattle.cm_brz_func.specs.Splitting.{AreApartByBucket}

-- ---- where the elements of a list stand among those that pass a test

-- how many of the elements before place i pass
abbrev place_in : {X : Type 0} → (X → Bool) → List X → ℕ → ℕ
place_in p xs i = length (filter p (take i xs))

-- the elements that pass, cut at one of them
cut_at : {X : Type 0} (p : X → Bool) (xs : List X) (i : ℕ) (d : X) → i < length xs → p (get_or xs i d) ≡ true → filter p xs ≡ filter p (take i xs) ++ get_or xs i d ∷ filter p (drop (suc i) xs)
cut_at {X = X} p xs i d inside passes =
    let first : filter p (get_or xs i d ∷ drop (suc i) xs) ≡ get_or xs i d ∷ filter p (drop (suc i) xs) = ap (λ (b : Bool). cond b (get_or xs i d ∷ filter p (drop (suc i) xs)) (filter p (drop (suc i) xs))) passes in
    ap (filter p) (sym (take-append-drop i xs)) ∙ (filter-append p (take i xs) (drop i xs) ∙ ap (λ (l : List X). filter p (take i xs) ++ l) (ap (filter p) (drop-cons xs i d inside) ∙ first))

place_is : {X : Type 0} (p : X → Bool) (xs : List X) (i : ℕ) (d : X) → i < length xs → p (get_or xs i d) ≡ true → get_or (filter p xs) (place_in p xs i) d ≡ get_or xs i d
place_is {X = X} p xs i d inside passes = ap (λ (l : List X). get_or l (place_in p xs i) d) (cut_at p xs i d inside passes) ∙ get_or-append_seam (filter p (take i xs)) (get_or xs i d) (filter p (drop (suc i) xs)) d

place_inside : {X : Type 0} (p : X → Bool) (xs : List X) (i : ℕ) (d : X) → i < length xs → p (get_or xs i d) ≡ true → place_in p xs i < length (filter p xs)
place_inside {X = X} p xs i d inside passes =
    omega (arith, ap length (cut_at p xs i d inside passes), length-append (filter p (take i xs)) (get_or xs i d ∷ filter p (drop (suc i) xs)))

-- a later one stands at a later place
place_rises : {X : Type 0} (p : X → Bool) (xs : List X) (i j : ℕ) (d : X) → i < j → j ≤ length xs → p (get_or xs i d) ≡ true → place_in p xs i < place_in p xs j
place_rises {X = X} p xs i j d order inside passes =
    let past : place_in p xs (i + 1) ≡ place_in p xs i + 1 = length-filter_more p xs i d (omega (arith, order, inside)) ∙ ap (λ (b : Bool). place_in p xs i + cond {A = ℕ} b 1 0) passes in
    let more : count_by p (take (i + 1) (take j xs)) ≤ count_by p (take j xs) = sum_by-take-le _ (take j xs) (i + 1) in
    let less : count_by p (take (i + 1) xs) ≤ count_by p (take j xs) = rw (take-take (i + 1) j xs (omega (arith, order))) at more in
    omega (arith, past, less, length-filter p (take (i + 1) xs), length-filter p (take j xs))

places_apart : {X : Type 0} (p : X → Bool) (xs : List X) (i j : ℕ) (d : X) → i < length xs → j < length xs → p (get_or xs i d) ≡ true → p (get_or xs j d) ≡ true → place_in p xs i ≡ place_in p xs j → i ≡ j
places_apart {X = X} p xs i j d inside inside' passes passes' same = go (cases_lt i j) (cases_lt j i) where
  go : (i < j) ⊎ (j ≤ i) → (j < i) ⊎ (i ≤ j) → i ≡ j
  go (inl l) other = absurd (omega (arith, place_rises p xs i j d l (omega (arith, inside')) passes, same))
  go (inr m) (inl l) = absurd (omega (arith, place_rises p xs j i d l (omega (arith, inside)) passes', same))
  go (inr m) (inr n) = omega (arith, m, n)

-- ---- offsets

offset_rises : (buckets : List Bucket) (i j : ℕ) → i ≤ j → offset_of buckets i ≤ offset_of buckets j
offset_rises buckets i j order =
    let more : keys_in (take i (take j buckets)) ≤ keys_in (take j buckets) = sum_by-take-le (λ (b : Bucket). b.size) (take j buckets) i in
    rw (take-take i j buckets order) at more

-- the numbers of a bucket end before those of a later one begin
ends_before : (buckets : List Bucket) (i j : ℕ) → i < length buckets → i < j → offset_of buckets i + (slice_index_or buckets i no_bucket).size ≤ offset_of buckets j
ends_before buckets i j inside order = omega (arith, sum_by_more (λ (b : Bucket). b.size) buckets i no_bucket inside, offset_rises buckets (i + 1) j (omega (arith, order)))

-- numbers of two buckets that are the same are of the same bucket
same_bucket : (buckets : List Bucket) (i j r s : ℕ) → i < length buckets → j < length buckets → r < (slice_index_or buckets i no_bucket).size → s < (slice_index_or buckets j no_bucket).size → offset_of buckets i + r ≡ offset_of buckets j + s → i ≡ j
same_bucket buckets i j r s inside inside' below below' same = go (cases_lt i j) (cases_lt j i) where
  go : (i < j) ⊎ (j ≤ i) → (j < i) ⊎ (i ≤ j) → i ≡ j
  go (inl l) other = absurd (omega (arith, ends_before buckets i j inside l, below, same))
  go (inr m) (inl l) = absurd (omega (arith, ends_before buckets j i inside' l, below', same))
  go (inr m) (inr n) = omega (arith, m, n)

-- ---- the answers

-- what is known of a key: its bucket, and its number there
record Stands (keys : List (ℕ × List ℕ)) (f : Brz) (i : ℕ) : Type 0 where
  bucket : ℕ
  is : bucket ≡ bucket_of (key_at keys i) f.split (length f.buckets)
  inside : bucket < length f.buckets
  number : ℕ
  answer : answer_in (slice_index_or f.buckets bucket no_bucket) (key_at keys i) ≡ Some number
  below : number < (slice_index_or f.buckets bucket no_bucket).size

stands : (keys : List (ℕ × List ℕ)) (f : Brz) (i : ℕ) → 0 < length f.buckets → AreApartByBucket keys f → i < length keys → Stands keys f i
stands keys f i some apart inside =
    let j = bucket_of (key_at keys i) f.split (length f.buckets) in
    let p = λ (k : ℕ × List ℕ). eqb (bucket_of k.1 f.split (length f.buckets)) j in
    let passes : p (slice_index_or keys i (0, [])) ≡ true = eq-eqb j j refl in
    let within : place_in p keys i < length (filter p keys) = place_inside p keys i (0, []) inside passes in
    let there : j < length f.buckets = mod_below _ _ some in
    let key : key_at (filter p keys) (place_in p keys i) ≡ key_at keys i = ap (λ (k : ℕ × List ℕ). k.1) (place_is p keys i (0, []) inside passes) in
    let got = (apart j there).below (place_in p keys i) within in
    record {
      bucket = j;
      is = refl;
      inside = there;
      number = got.0;
      answer = ap (answer_in (slice_index_or f.buckets j no_bucket)) (sym key) ∙ got.1;
      below = got.2;
    }

abbrev number_of : Brz → ℕ → ℕ → ℕ
number_of f j r = offset_of f.buckets j + r

answered : (keys : List (ℕ × List ℕ)) (f : Brz) (i : ℕ) (s : Stands keys f i) → brz_answer f (key_at keys i) ≡ Some (number_of f s.bucket s.number)
answered keys f i s =
    ap (λ (j : ℕ). option_map (λ r. offset_of f.buckets j + r) (answer_in (slice_index_or f.buckets j no_bucket) (key_at keys i))) (sym s.is) ∙ ap (option_map (λ r. offset_of f.buckets s.bucket + r)) s.answer

some_same : (a b : ℕ) → Some a ≡ Some b → a ≡ b
some_same a b e = cc

-- two keys of the same number are of the same bucket, and so the same
apart_in : (keys : List (ℕ × List ℕ)) (f : Brz) (i i' j : ℕ) → AreApartByBucket keys f → i < length keys → i' < length keys → j < length f.buckets
    → bucket_of (key_at keys i) f.split (length f.buckets) ≡ j → bucket_of (key_at keys i') f.split (length f.buckets) ≡ j
    → answer_in (slice_index_or f.buckets j no_bucket) (key_at keys i) ≡ answer_in (slice_index_or f.buckets j no_bucket) (key_at keys i') → i ≡ i'
apart_in keys f i i' j apart inside inside' there is is' same =
    let p = λ (k : ℕ × List ℕ). eqb (bucket_of k.1 f.split (length f.buckets)) j in
    let passes : p (slice_index_or keys i (0, [])) ≡ true = eq-eqb _ _ is in
    let passes' : p (slice_index_or keys i' (0, [])) ≡ true = eq-eqb _ _ is' in
    let key : key_at (filter p keys) (place_in p keys i) ≡ key_at keys i = ap (λ (k : ℕ × List ℕ). k.1) (place_is p keys i (0, []) inside passes) in
    let key' : key_at (filter p keys) (place_in p keys i') ≡ key_at keys i' = ap (λ (k : ℕ × List ℕ). k.1) (place_is p keys i' (0, []) inside' passes') in
    let a = answer_in (slice_index_or f.buckets j no_bucket) in
    places_apart p keys i i' (0, []) inside inside' passes passes' ((apart j there).apart (place_in p keys i) (place_in p keys i') (place_inside p keys i (0, []) inside passes) (place_inside p keys i' (0, []) inside' passes') (ap a key ∙ (same ∙ sym (ap a key'))))

pub apart_in_all : (keys : List (ℕ × List ℕ)) (f : Brz) → 0 < length f.buckets → keys_in f.buckets ≡ length keys → AreApartByBucket keys f → AnswersApart keys (brz_answer f) (length keys)
apart_in_all keys f some all apart = record { below = below; apart = distinct } where
  below : (i : ℕ) → i < length keys → (n : ℕ) × (brz_answer f (key_at keys i) ≡ Some n) × (n < length keys)
  below i inside =
      let s = stands keys f i some apart inside in
      (number_of f s.bucket s.number, answered keys f i s, omega (arith, sum_by_more_le (λ (b : Bucket). b.size) f.buckets s.bucket no_bucket s.inside, s.below, all))

  distinct : (i j : ℕ) → i < length keys → j < length keys → brz_answer f (key_at keys i) ≡ brz_answer f (key_at keys j) → i ≡ j
  distinct i j inside inside' same =
      let s = stands keys f i some apart inside in
      let t = stands keys f j some apart inside' in
      let numbers : number_of f s.bucket s.number ≡ number_of f t.bucket t.number = some_same _ _ (sym (answered keys f i s) ∙ (same ∙ answered keys f j t)) in
      let bucket : s.bucket ≡ t.bucket = same_bucket f.buckets s.bucket t.bucket s.number t.number s.inside t.inside s.below t.below numbers in
      let number : s.number ≡ t.number = omega (arith, numbers, ap (offset_of f.buckets) bucket) in
      let there : answer_in (slice_index_or f.buckets s.bucket no_bucket) (key_at keys j) ≡ Some t.number = ap (λ (k : ℕ). answer_in (slice_index_or f.buckets k no_bucket) (key_at keys j)) bucket ∙ t.answer in
      apart_in keys f i j s.bucket apart inside inside' s.inside (sym s.is) (sym t.is ∙ sym bucket) (s.answer ∙ (ap Some number ∙ sym there))
