-- The function by BRZ of numbered keys: the first seed that splits them, and in each bucket the first seed whose graph has an
-- empty 2-core.
use Rattle.std.specs.Prelude.{◌≡◌, ◌≢◌, ℕ, ◌<◌, List, [], ◌∷◌, length, slice_index_or, Option, Some, option_map}
use Rattle.cm_brz_func.specs.Splitting.{keys_of_bucket}
use Rattle.cm_brz_split.specs.Split.{split_of}
use Rattle.cm_brz_func.specs.Functions.{Brz, Bucket, bucket_count, no_bucket}
use Rattle.cm_brz_func.specs.Pushing.{with_bucket}
use Rattle.cm_spec.specs.Bdz.{bdz_rule}
use Rattle.cm_spec.specs.Built.{IsFirst, cells_under, first_seed}

-- the bucket of keys under a seed
abbrev pub bucket_under : List (ℕ × List ℕ) → ℕ → ℕ → Bucket
bucket_under keys c seed = record { size = length keys; seed = seed; cells = cells_under bdz_rule keys c seed }

-- the bucket of keys under the first seed of a list by which peeling removes every edge; without keys there is nothing to build
abbrev pub bucket_from : List (ℕ × List ℕ) → ℕ → List ℕ → Option Bucket
bucket_from [] c seeds = Some no_bucket
bucket_from (key ∷ keys) c seeds = option_map (bucket_under (key ∷ keys) c) (first_seed bdz_rule (key ∷ keys) c seeds)

-- the function of keys with the ratio c, b keys a bucket and a list of seeds
pub record IsBrzOf (keys : List (ℕ × List ℕ)) (c b : ℕ) (seeds : List ℕ) (f : Brz) : Type 0 where
  pub many : f.keys ≡ length keys
  pub ratio : f.ratio ≡ c
  pub width : f.width ≡ b
  pub split : split_of keys (bucket_count (length keys) b) seeds ≡ Some f.split
  pub count : length f.buckets ≡ bucket_count (length keys) b
  pub each : (j : ℕ) → j < length f.buckets → bucket_from (keys_of_bucket keys (length f.buckets) f.split j) c seeds ≡ Some (slice_index_or f.buckets j no_bucket)
  pub first : (j : ℕ) → j < length f.buckets → keys_of_bucket keys (length f.buckets) f.split j ≢ [] → (place : ℕ) × IsFirst bdz_rule (keys_of_bucket keys (length f.buckets) f.split j) c seeds place (slice_index_or f.buckets j no_bucket).seed

-- the function with one bucket more, that of these keys
pub record PushesBucket (before after : Brz) (keys : List (ℕ × List ℕ)) (c : ℕ) (seeds : List ℕ) : Type 0 where
  pub bucket : Bucket
  pub pushed : after ≡ with_bucket before bucket
  pub size : bucket.size ≡ length keys
  pub built : bucket_from keys c seeds ≡ Some bucket
  pub first : keys ≢ [] → (place : ℕ) × IsFirst bdz_rule keys c seeds place bucket.seed

-- these buckets are those of their keys
pub record AreBuilt (keys_of : ℕ → List (ℕ × List ℕ)) (c : ℕ) (seeds : List ℕ) (buckets : List Bucket) : Type 0 where
  pub each : (j : ℕ) → j < length buckets → bucket_from (keys_of j) c seeds ≡ Some (slice_index_or buckets j no_bucket)
  pub first : (j : ℕ) → j < length buckets → keys_of j ≢ [] → (place : ℕ) × IsFirst bdz_rule (keys_of j) c seeds place (slice_index_or buckets j no_bucket).seed
