-- Lemmas about functions by BRZ in the bytes of a dump: what they answer if the index is that of the function.
use Rattle.std.specs.Prelude.{◌≡◌, ◌≢◌, ℕ, ◌+◌, ◌%◌, ◌^◌, ◌<◌, ◌≤◌, true, List, [], ◌∷◌, length, map, nat_lt, slice_index, slice_index_or, take, Option, Some, option_map, refl}
use Rattle.std.specs.List.{sum_by}
use Rattle.std.proofs.Common.{◌∙◌, ◌⊎◌, ap, arith, inl, inr, sym}
use Rattle.std.proofs.lemmas.Bool.{cases_eq, eq-eqb, ne_eqb}
use Rattle.std.proofs.lemmas.List.{get_or-map, length-map}
use Rattle.std.proofs.lemmas.List.Sums.{sum_by_more_le}
use Rattle.std.proofs.lemmas.Nat.{mod_below}
use Rattle.cm_bdz.specs.BdzLaws.{HasThirds, bdz_ends, thirds}
use Rattle.cm_bdz.specs.Functions.{chosen_of}
use Rattle.cm_bdz.specs.Lent.{if_below}
use Rattle.cm_bdz.specs.RankingLaws.{rank_below}
use Rattle.cm_brz_func.specs.Functions.{Brz, Bucket, IsBrz, IsBucket, answer_in, bucket_cells, bucket_of, brz_answer, keys_in, no_bucket, offset_of}
use Rattle.cm_rank.specs.Ranks.{rank_of}
use Rattle.cm_spec.specs.Bdz.{bdz_edge, bdz_size}
use Rattle.cm_spec.specs.Lookup2.{words}
use Rattle.cm_spec.specs.Rule.{IsRatio}
use Rattle.cm_dump_brz.specs.Indexed.{HasOffsets, IndexedBrz, bucket_by, function_of, indexed_answer, number_after, word_of}

below_is : (bound n : ℕ) → n < bound → if_below bound n ≡ Some n
below_is bound n l =
    let test : nat_lt n bound ≡ true = grind (arith, l) in
    rw test refl

-- the chosen vertex of a bucket that has keys is one of its vertices
chosen_inside : (ratio : ℕ) (b : Bucket) (key : List ℕ) → IsRatio ratio → IsBucket ratio b → b.size ≢ 0 → chosen_of b.cells key b.seed < length b.cells
chosen_inside ratio b key within is any =
    let test = ne_eqb b.size 0 any in
    let size : length b.cells ≡ bdz_size b.size ratio = rw test at is.cells in
    let t : HasThirds (length b.cells) = thirds b.size ratio (length b.cells) (omega (arith, any), omega (arith, is.few)) within size in
    let w = words key b.seed in
    let ends = bdz_edge w (length b.cells) in
    let at : ℕ = sum_by (slice_index b.cells) ends % 3 in
    let edge = bdz_ends w (length b.cells) t in
    edge.1.0 at 0 (omega (arith, edge.0, mod_below (sum_by (slice_index b.cells) ends) 3 (omega arith)))

-- a bucket's answer is below its number of keys, and so fits after those of the buckets before
answer_fits : (ratio : ℕ) (b : Bucket) (key : List ℕ) (before bound : ℕ) → IsRatio ratio → IsBucket ratio b → before + b.size ≤ bound → number_after bound before (answer_in b key) ≡ option_map (λ r. before + r) (answer_in b key)
answer_fits ratio b key before bound within is room = go (cases_eq b.size 0) where
  v : ℕ
  v = chosen_of b.cells key b.seed

  busy : b.size ≢ 0 → (slice_index b.cells v ≡ 3) ⊎ (slice_index b.cells v ≢ 3) → number_after bound before (answer_in b key) ≡ option_map (λ r. before + r) (answer_in b key)
  busy any (inl idle) = rw (ne_eqb b.size 0 any, eq-eqb (slice_index b.cells v) 3 idle) refl
  busy any (inr other) =
      let rank = rank_below b.cells v b.size (chosen_inside ratio b key within is any) other is.busy in
      rw (ne_eqb b.size 0 any, ne_eqb (slice_index b.cells v) 3 other) (below_is bound (before + rank_of 3 b.cells v) (omega (arith, rank, room)))

  go : (b.size ≡ 0) ⊎ (b.size ≢ 0) → number_after bound before (answer_in b key) ≡ option_map (λ r. before + r) (answer_in b key)
  go (inl none) = rw (eq-eqb b.size 0 none) refl
  go (inr any) = busy any (cases_eq (slice_index b.cells v) 3)

-- there is a bucket, since there is a key
some_of : (f : IndexedBrz) → IsBrz (function_of f) → 0 < length f.index
some_of f is = go f.index is.all where
  go : (index : List ℕ) → keys_in (map (bucket_by f) index) ≡ f.keys → 0 < length index
  go [] all = absurd (omega (arith, all, is.keys.0))
  go (x ∷ xs) all = omega arith

-- the answers are those of the function, if the index is its own
pub indexed_is : (f : IndexedBrz) → IsBrz (function_of f) → HasOffsets f → (key : List ℕ) → indexed_answer f key ≡ brz_answer (function_of f) key
indexed_is f is offsets key =
    let buckets : List Bucket = map (bucket_by f) f.index in
    let long : length buckets ≡ length f.index = length-map f.index (bucket_by f) in
    let j : ℕ = bucket_of key f.split (length f.index) in
    let inside : j < length f.index = mod_below _ (length f.index) (some_of f is) in
    let b : Bucket = bucket_by f (slice_index f.index j) in
    let one : slice_index_or buckets j no_bucket ≡ b = get_or-map (bucket_by f) f.index j 0 no_bucket inside in
    let within : j < length buckets = omega (arith, inside, long) in
    let bucket : IsBucket f.ratio b = rw one at (is.each j no_bucket within) in
    let most : offset_of buckets j + (slice_index_or buckets j no_bucket).size ≤ keys_in buckets = sum_by_more_le (λ (x : Bucket). x.size) buckets j no_bucket within in
    let room : offset_of buckets j + b.size ≤ f.keys = rw (one, is.all) at most in
    rw (offsets j inside, long, one) (answer_fits f.ratio b key (offset_of buckets j) f.keys is.ratio bucket room)
