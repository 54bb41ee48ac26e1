-- The keys of each bucket.
use Rattle.std.specs.Prelude.{◌≡◌, ℕ, ◌<◌, ◌≤◌, ◌==◌, List, filter, length, slice_index_or}
use Rattle.cm_bdz.specs.Numbering.{AnswersApart}
use Rattle.cm_brz_func.specs.Functions.{Brz, answer_in, bucket_of, no_bucket}
use Rattle.cm_spec.specs.declared.limits.TheConstants.{MAX_BUCKET}

-- the keys of bucket j, of k, in their order
abbrev pub keys_of_bucket : List (ℕ × List ℕ) → ℕ → ℕ → ℕ → List (ℕ × List ℕ)
keys_of_bucket keys k split j = filter (λ key. bucket_of key.1 split k == j) keys

-- how many keys bucket j has, of k
abbrev pub size_of_bucket : List (ℕ × List ℕ) → ℕ → ℕ → ℕ → ℕ
size_of_bucket keys k split j = length (keys_of_bucket keys k split j)

-- the lowest bucket under a seed that has more keys than one may have, with its number of keys
pub record IsLowestOver (keys : List (ℕ × List ℕ)) (k split bucket count : ℕ) : Type 0 where
  pub within : bucket < k
  pub is : count ≡ size_of_bucket keys k split bucket
  pub over : MAX_BUCKET < count
  pub lowest : (j : ℕ) → j < bucket → size_of_bucket keys k split j ≤ MAX_BUCKET

-- in each bucket no two of its keys have the same answer, and each answer is below the bucket's number of keys
abbrev pub AreApartByBucket : List (ℕ × List ℕ) → Brz → Type 0
AreApartByBucket keys f =
    (j : ℕ) → j < length f.buckets → AnswersApart (keys_of_bucket keys (length f.buckets) f.split j) (answer_in (slice_index_or f.buckets j no_bucket)) (slice_index_or f.buckets j no_bucket).size
