-- Functions by BRZ (Botelho, Pagh, Ziviani, "Perfect hashing for data management applications", 2007): a first hash splits the
-- keys into buckets, and each bucket has a function by BDZ of its own.
use Rattle.std.specs.Prelude.{◌≡◌, ℕ, ◌+◌, ◌-◌, ◌/◌, ◌%◌, ◌^◌, ◌<◌, ◌≤◌, ◌==◌, if◌then◌else◌, List, [], All, length, take, count_by, bit_xor, slice_index, slice_index_or, Option, None, option_map}
use Rattle.std.specs.List.{sum_by}
use Rattle.cm_bdz.specs.Functions.{chosen_of, ranked}
use Rattle.cm_bits.specs.Bound.{AllBelow}
use Rattle.cm_spec.specs.declared.limits.TheConstants.{MAX_BUCKET, MAX_KEYS, MAX_WIDTH, MIN_WIDTH}
use Rattle.cm_spec.specs.Bdz.{bdz_size}
use Rattle.cm_spec.specs.Cells.{is_busy}
use Rattle.cm_spec.specs.Lookup2.{words}
use Rattle.cm_spec.specs.Rule.{IsRatio}

-- a bucket: its number of keys, the seed of their hash, and the cells of their function by BDZ; an empty one has the seed 0 and
-- no cells
pub record Bucket : Type 0 where
  pub size : ℕ
  pub seed : ℕ
  pub cells : List ℕ

-- a function by BRZ: the number of keys, the ratio in millionths, how many keys a bucket has on average, the seed that splits
-- the keys, and the buckets
pub record Brz : Type 0 where
  pub keys : ℕ
  pub ratio : ℕ
  pub width : ℕ
  pub split : ℕ
  pub buckets : List Bucket

-- how many buckets m keys are split into: m / b, rounded up
abbrev pub bucket_count : ℕ → ℕ → ℕ
bucket_count m b = (m + (b - 1)) / b

-- the seed under which keys are hashed to find their buckets: that of the split with all bits flipped
abbrev pub flipped : ℕ → ℕ
flipped split = bit_xor split 4294967295

-- the bucket, of k, of a key with these hash values under that seed: the third of them, modulo k
abbrev pub bucket_by : List ℕ → ℕ → ℕ
bucket_by hashed k = slice_index hashed 2 % k

-- the bucket of a key, of k
abbrev pub bucket_of : List ℕ → ℕ → ℕ → ℕ
bucket_of key split k = bucket_by (words key (flipped split)) k

-- how many cells a bucket of `size` keys has
abbrev pub bucket_cells : ℕ → ℕ → ℕ
bucket_cells size ratio = if size == 0 then 0 else bdz_size size ratio

-- how many keys these buckets have
abbrev pub keys_in : List Bucket → ℕ
keys_in buckets = sum_by (λ b. b.size) buckets

-- how many keys lie in the buckets before bucket j
abbrev pub offset_of : List Bucket → ℕ → ℕ
offset_of buckets j = keys_in (take j buckets)

-- the value of an index past the end
abbrev pub no_bucket : Bucket
no_bucket = record { size = 0; seed = 0; cells = [] }

-- the answer of a bucket's function by BDZ; an empty bucket has none
abbrev pub answer_in : Bucket → List ℕ → Option ℕ
answer_in bucket key = if bucket.size == 0 then None else ranked bucket.cells (chosen_of bucket.cells key bucket.seed)

-- the answer of bucket j, after the numbers of the buckets before it
abbrev pub answer_of_bucket : Brz → ℕ → List ℕ → Option ℕ
answer_of_bucket f j key = option_map (λ r. offset_of f.buckets j + r) (answer_in (slice_index_or f.buckets j no_bucket) key)

-- the answer of a function by BRZ: that of the key's bucket
abbrev pub brz_answer : Brz → List ℕ → Option ℕ
brz_answer f key = answer_of_bucket f (bucket_of key f.split (length f.buckets)) key

-- a bucket's numbers are in their ranges, and it has as many cells as its graph has vertices, each below 4, of which as many
-- are not 3 as there are keys
pub record IsBucket (ratio : ℕ) (bucket : Bucket) : Type 0 where
  pub few : bucket.size ≤ MAX_BUCKET
  pub seed : bucket.seed < 2 ^ 32
  pub unseeded : bucket.size ≡ 0 → bucket.seed ≡ 0
  pub cells : length bucket.cells ≡ bucket_cells bucket.size ratio
  pub below : AllBelow 4 bucket.cells
  pub busy : count_by (is_busy 3) bucket.cells ≡ bucket.size

-- a function by BRZ: its numbers are in their ranges, and its buckets have all of the keys
pub record IsBrz (f : Brz) : Type 0 where
  pub keys : (1 ≤ f.keys) × (f.keys ≤ MAX_KEYS)
  pub ratio : IsRatio f.ratio
  pub width : (MIN_WIDTH ≤ f.width) × (f.width ≤ MAX_WIDTH)
  pub split : f.split < 2 ^ 32
  pub count : length f.buckets ≡ bucket_count f.keys f.width
  pub each : All (IsBucket f.ratio) f.buckets
  pub all : keys_in f.buckets ≡ f.keys
