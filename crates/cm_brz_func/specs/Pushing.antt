-- Buckets that come one after another.
use Rattle.std.specs.Prelude.{◌≡◌, ◌≢◌, ◌⊎◌, ◌+◌, ◌<◌, ◌≤◌, ◌∷◌, [], ◌++◌, length, count_by}
use Rattle.cm_brz_func.specs.Functions.{Brz, Bucket, bucket_count, keys_in}
use Rattle.cm_spec.specs.Cells.{is_busy}

-- with one bucket more
abbrev pub with_bucket : Brz → Bucket → Brz
with_bucket f bucket = record f { buckets = f.buckets ++ bucket ∷ [] }

-- a bucket that can't be the next one: the number of its cells that are not 3 differs from that of its keys, or the buckets then have
-- more keys than the function, or, with the last of them, fewer
abbrev pub Miscounts : Brz → Bucket → Type 0
Miscounts f bucket =
    (count_by (is_busy 3) bucket.cells ≢ bucket.size)
    ⊎ (f.keys < keys_in f.buckets + bucket.size)
    ⊎ ((length f.buckets + 1 ≡ bucket_count f.keys f.width) × (keys_in f.buckets + bucket.size < f.keys))

-- a bucket that can be the next one
pub record Counts (f : Brz) (bucket : Bucket) : Type 0 where
  pub busy : count_by (is_busy 3) bucket.cells ≡ bucket.size
  pub within : keys_in f.buckets + bucket.size ≤ f.keys
  pub all : length f.buckets + 1 ≡ bucket_count f.keys f.width → f.keys ≤ keys_in f.buckets + bucket.size
