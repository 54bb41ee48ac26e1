-- How buckets are kept: their cells in one table, and beside it for each bucket where its cells begin there, how many keys lie in the
-- buckets before it, and its seed. Its number of keys follows from the next bucket, and its number of cells from that.
use Rattle.std.specs.Prelude.{◌≡◌, ℕ, ◌+◌, ◌-◌, ◌*◌, ◌/◌, ◌%◌, ◌^◌, ◌<◌, ◌≤◌, List, [], ◌∷◌, All, drop, length, map, slice_index, slice_index_or, take}
use Rattle.cm_spec.specs.declared.limits.TheConstants.{MAX_BUCKET, MAX_KEYS, MAX_WIDTH, MIN_WIDTH}
use Rattle.cm_spec.specs.Image.{packed_len}
use Rattle.cm_spec.specs.Rule.{IsRatio}
use Rattle.cm_brz_func.specs.Functions.{Brz, Bucket, IsBucket, bucket_cells, bucket_count, keys_in, offset_of}
use Rattle.cm_brz_func.specs.declared.held.Held.{Held}
use Rattle.cm_brz_func.specs.declared.held.Kept.{Kept}

-- how many keys lie in the buckets before bucket j, or n if it is past the last one
abbrev pub offset_at : List Kept → ℕ → ℕ → ℕ
offset_at kept n j = (slice_index_or kept j (record { start = 0; offset = n; seed = 0 })).offset

-- the bucket that is kept as k, of `size` keys
abbrev pub held_of : ℕ → Kept → ℕ → Held
held_of ratio k size = record { start = k.start; offset = k.offset; seed = k.seed; third = bucket_cells size ratio / 3; size = size }

-- all buckets, of n keys: each has the keys before those of the next one
abbrev pub all_held : ℕ → ℕ → List Kept → List Held
all_held ratio n [] = []
all_held ratio n (k ∷ kept) = held_of ratio k (offset_at kept n 0 - k.offset) ∷ all_held ratio n kept

-- the value of an index past the end
abbrev pub none_held : Held
none_held = record { start = 0; offset = 0; seed = 0; third = 0; size = 0 }

-- bucket j is there, and has at most as many keys as a bucket can have
pub record IsSized (kept : List Kept) (n j : ℕ) : Type 0 where
  pub inside : j < length kept
  pub rises : offset_at kept n j ≤ offset_at kept n (j + 1)
  pub few : offset_at kept n (j + 1) ≤ offset_at kept n j + MAX_BUCKET

-- the cells of a bucket in the table
abbrev pub cells_in : List ℕ → Held → List ℕ
cells_in table h = take (3 * h.third) (drop h.start table)

-- the bucket
abbrev pub bucket_in : List ℕ → Held → Bucket
bucket_in table h = record { size = h.size; seed = h.seed; cells = cells_in table h }

-- the buckets of a table
abbrev pub buckets_of : List ℕ → List Held → List Bucket
buckets_of table kept = map (bucket_in table) kept

-- the cells of a bucket lie in the table: from the start of a byte on, and with no cell of another bucket in their last byte
pub record LiesIn (table : List ℕ) (h : Held) : Type 0 where
  pub whole : h.start % 4 ≡ 0
  pub within : h.start + 3 * h.third ≤ length table
  pub clear : (k : ℕ) → 3 * h.third ≤ k → k < 4 * packed_len 4 (3 * h.third) → slice_index table (h.start + k) ≡ 0

-- the first buckets of a function, as they are kept, of which there are to be k, and which have n keys so far
pub record AreKept (f : Brz) (table : List ℕ) (kept : List Held) (k n : ℕ) : Type 0 where
  pub keys : (1 ≤ f.keys) × (f.keys ≤ MAX_KEYS)
  pub ratio : IsRatio f.ratio
  pub width : (MIN_WIDTH ≤ f.width) × (f.width ≤ MAX_WIDTH)
  pub split : f.split < 2 ^ 32
  pub count : k ≡ bucket_count f.keys f.width
  pub few : length kept ≤ k
  pub each : All (IsBucket f.ratio) f.buckets
  pub lie : All (LiesIn table) kept
  pub offsets : (i : ℕ) → i < length kept → (slice_index_or kept i none_held).offset ≡ offset_of f.buckets i
  pub held : n ≡ keys_in f.buckets
  pub within : n ≤ f.keys
  pub all : length kept ≡ k → n ≡ f.keys
  -- at most 10 cells for a key, and 14 for a bucket
  pub short : length table ≤ 10 * n + 14 * length kept
