-- The index of a dump, bucket by bucket.
use Rattle.std.specs.Prelude.{slice_index, slice_index_or, slice_set}
use Rattle.std.proofs.Common.{◌≡◌, ◌∙◌, ◌⊎◌, ℕ, suc, ◌+◌, ◌-◌, ◌*◌, ◌/◌, ◌%◌, ◌^◌, ◌<◌, ◌≤◌, List, [], ◌∷◌, ◌++◌, length, map, take, ap, arith, inl, inr, refl, subst, sym, false, Ok}
use Rattle.std.specs.List.{All}
use Rattle.std.proofs.lemmas.Bool.{cases_lt}
use Rattle.std.proofs.lemmas.List.{get_or-set_other, get_or-set_same, length-map, length-take, map-append, take-append-le, take_all, take_more_set}
use Rattle.std.proofs.lemmas.List.Elements.{All-append, All-cons, All-nil}
use Rattle.std.proofs.lemmas.List.Sums.{sum_by_push}
use Rattle.cm_brz_func.specs.Functions.{Brz, Bucket, IsBrz, IsBucket, bucket_count, keys_in, offset_of}
use Rattle.cm_brz_func.specs.Pushing.{with_bucket}
use Rattle.cm_dump.specs.Forms.{form_of}
use Rattle.cm_dump.specs.RestLaws.{rest_step}
use Rattle.cm_dump.specs.Spelling.{brz_at, bucket_at, bucket_len, no_buckets, rest_at}
use Rattle.cm_dump.specs.declared.front.Header.{Header}
use Rattle.cm_dump.specs.declared.versions.Version.{Version}
use Rattle.cm_spec.specs.Rule.{IsRatio}
use Rattle.cm_dump_brz.specs.Indexed.{HasOffsets, bucket_by, bucket_in, bucket_or_none, function_of}
use Rattle.cm_dump_brz.specs.Opened.{indexed}
use Rattle.cm_dump_brz.proofs.SizeLemmas.{bucket_short}

-- the function of the first j numbers of an index
abbrev pub first_of : Version → Header → List ℕ → List ℕ → ℕ → Brz
first_of v h dump index j = function_of (indexed v h dump (take j index))

-- The first j buckets of a dump are indexed: they have `held` keys, and the next one begins at an offset.
pub record IsIndexed (v : Version) (h : Header) (dump index : List ℕ) (j at held : ℕ) : Type 0 where
  pub inside : at ≤ length dump
  pub near : at ≤ 24 + 2566 * j
  pub right : brz_at (form_of v) dump h ≡ rest_at (form_of v) dump at (bucket_count h.keys h.b - j) (first_of v h dump index j)
  pub held_is : keys_in (first_of v h dump index j).buckets ≡ held
  pub within : held ≤ h.keys
  pub all : j ≡ bucket_count h.keys h.b → h.keys ≤ held
  pub each : All (IsBucket h.ratio) (first_of v h dump index j).buckets
  pub offsets : (i : ℕ) → i < j → slice_index index i % 2 ^ 32 ≡ offset_of (first_of v h dump index j).buckets i

-- no bucket is
pub index_begun : (v : Version) (h : Header) (dump index : List ℕ) → 24 ≤ length dump → 0 < bucket_count h.keys h.b → IsIndexed v h dump index 0 24 0
unfolding brz_at
index_begun v h dump index start some =
    let count : ℕ = bucket_count h.keys h.b in
    let whole : count ≡ count - 0 = omega arith in
    record {
      inside = start;
      near = omega arith;
      right = ap (λ (k : ℕ). rest_at (form_of v) dump 24 k (no_buckets h)) whole;
      held_is = refl;
      within = omega arith;
      all = λ none. absurd (omega (arith, none, some));
      each = All-nil (IsBucket h.ratio);
      offsets = λ i l. absurd (omega (arith, l));
    }

-- The next bucket of a dump.
pub record IsNext (v : Version) (h : Header) (dump : List ℕ) (f : Brz) (at held left : ℕ) (b : Bucket) : Type 0 where
  pub there : bucket_in (form_of v) dump h.ratio at ≡ Ok b
  pub read : bucket_at (form_of v) dump at f left ≡ Ok b
  pub valid : IsBucket h.ratio b
  pub within : held + b.size ≤ h.keys
  pub all : left ≡ 0 → h.keys ≤ held + b.size
  pub inside : at + bucket_len (form_of v) b ≤ length dump

-- the buckets with one more
grown : (v : Version) (h : Header) (dump index : List ℕ) (j at held : ℕ) (b : Bucket) → j < length index → held < 2 ^ 32 → bucket_in (form_of v) dump h.ratio at ≡ Ok b
    → (first_of v h dump (slice_set index j (at * 4294967296 + held)) (j + 1)).buckets ≡ (first_of v h dump index j).buckets ++ b ∷ []
grown v h dump index j at held b room fits there =
    let word : ℕ = at * 4294967296 + held in
    let bucket : ℕ → Bucket = bucket_by (indexed v h dump []) in
    let place : word / 4294967296 ≡ at = omega (arith, fits) in
    let one : bucket word ≡ b = ap (λ (k : ℕ). bucket_or_none (bucket_in (form_of v) dump h.ratio k)) place ∙ ap bucket_or_none there in
    ap (map bucket) (take_more_set index j word room) ∙ (map-append bucket (take j index) (word ∷ []) ∙ ap (λ (x : Bucket). map bucket (take j index) ++ x ∷ []) one)

-- one more is
pub index_more : (v : Version) (h : Header) (dump index : List ℕ) (j at held len left : ℕ) (b : Bucket) → IsRatio h.ratio → j < length index → length index ≡ bucket_count h.keys h.b → left ≡ bucket_count h.keys h.b - 1 - j → held < 2 ^ 32
    → IsIndexed v h dump index j at held → IsNext v h dump (first_of v h dump index j) at held left b → len ≡ bucket_len (form_of v) b
    → IsIndexed v h dump (slice_set index j (at * 4294967296 + held)) (j + 1) (at + len) (held + b.size)
index_more v h dump index j at held len left b ratio room count rest fits is next size =
    let new : List ℕ = slice_set index j (at * 4294967296 + held) in
    let before : List Bucket = (first_of v h dump index j).buckets in
    let all : ℕ = bucket_count h.keys h.b in
    let more : (first_of v h dump new (j + 1)).buckets ≡ before ++ b ∷ [] = grown v h dump index j at held b room fits next.there in
    let long : length before ≡ j = omega (arith, length-map (take j index) (bucket_by (indexed v h dump [])), length-take j index, room) in
    let step = rest_step (form_of v) dump at left (all - j) (first_of v h dump index j) b (omega (arith, rest, room, count)) next.read in
    let moved : rest_at (form_of v) dump (at + bucket_len (form_of v) b) left (with_bucket (first_of v h dump index j) b) ≡ rest_at (form_of v) dump (at + len) (all - (j + 1)) (first_of v h dump new (j + 1)) =
    ap (λ (k : ℕ). rest_at (form_of v) dump (at + k) left (with_bucket (first_of v h dump index j) b)) (sym size)
    ∙ (ap (λ (k : ℕ). rest_at (form_of v) dump (at + len) k (with_bucket (first_of v h dump index j) b)) (omega (arith, rest, room, count))
    ∙ ap (λ (bs : List Bucket). rest_at (form_of v) dump (at + len) (all - (j + 1)) (record { keys = h.keys; ratio = h.ratio; width = h.b; split = h.seed; buckets = bs })) (sym more)) in
    record {
      inside = omega (arith, next.inside, size);
      near = omega (arith, is.near, size, bucket_short v h.ratio b ratio next.valid);
      right = is.right ∙ (step ∙ moved);
      held_is = ap keys_in more ∙ (sum_by_push (λ (x : Bucket). x.size) before b ∙ ap (λ (n : ℕ). n + b.size) is.held_is);
      within = next.within;
      all = λ last. next.all (omega (arith, rest, last));
      each = subst (λ (bs : List Bucket). All (IsBucket h.ratio) bs) (sym more) (All-append (IsBucket h.ratio) before (b ∷ []) is.each (All-cons (IsBucket h.ratio) b [] next.valid (All-nil (IsBucket h.ratio))));
      offsets = λ i l. rw more (go i l (cases_lt i j));
    } where
      word : ℕ
      word = at * 4294967296 + held

      buckets : List Bucket
      buckets = (first_of v h dump index j).buckets

      many : length buckets ≡ j
      many = omega (arith, length-map (take j index) (bucket_by (indexed v h dump [])), length-take j index, room)

      go : (i : ℕ) → i < j + 1 → (i < j) ⊎ (j ≤ i) → slice_index (slice_set index j word) i % 2 ^ 32 ≡ offset_of (buckets ++ b ∷ []) i
      go i l (inl k) =
          let same : slice_index (slice_set index j word) i ≡ slice_index index i = get_or-set_other index j i word 0 (λ (e : i ≡ j). omega (arith, e, k)) in
          let front : take i (buckets ++ b ∷ []) ≡ take i buckets = take-append-le i buckets (b ∷ []) (omega (arith, k, many)) in
          rw (same, front) (is.offsets i k)
      go i l (inr k) =
          let here : i ≡ j = omega (arith, k, l) in
          let put : slice_index (slice_set index j word) j ≡ word = get_or-set_same index j word 0 room in
          let front : take j (buckets ++ b ∷ []) ≡ buckets = take-append-le j buckets (b ∷ []) (omega (arith, many)) ∙ take_all j buckets (omega (arith, many)) in
          let low : word % 4294967296 ≡ held = omega (arith, fits) in
          rw (here, put, front) (low ∙ sym is.held_is)
