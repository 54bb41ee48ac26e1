-- Functions by BRZ in the bytes of a dump, with an index of their buckets. The bytes and the index may be any.
use Rattle.std.specs.Prelude.{◌≡◌, ◌≢◌, ◌+◌, ◌/◌, ◌%◌, ◌^◌, ◌<◌, ◌≤◌, ◌++◌, ◌∷◌, [], ℕ, List, length, map, slice_index, slice_index_or, Option, None, Some, Result, Ok, Err}
use Rattle.std.specs.Int.{byte_len, w32}
use Rattle.cm_bdz.specs.Functions.{IsThirds}
use Rattle.cm_bdz.specs.Lent.{if_below}
use Rattle.cm_bits.specs.Held.{packed_cells}
use Rattle.cm_brz_func.specs.Functions.{Brz, Bucket, answer_in, bucket_cells, bucket_of, no_bucket, offset_of}
use Rattle.cm_brz_func.specs.Places.{ends_in}
use Rattle.cm_dump.specs.Forms.{Form, form_of}
use Rattle.cm_dump.specs.Spelling.{most_seed}
use Rattle.cm_dump.specs.declared.versions.Version.{Version}
use Rattle.cm_dump_brz.specs.declared.lent.LentBrzParts.{LentBrzParts}
use Rattle.cm_dump_items.specs.Reading.{◌>>=◌, field_at, item_at}
use Rattle.cm_dump_items.specs.declared.fault.LoadFault.{LoadFault}
use Rattle.cm_spec.specs.Image.{packed_len}
use Rattle.cm_spec.specs.Rule.{IsRatio}
use Rattle.cm_spec.specs.declared.limits.TheConstants.{MAX_KEYS, MAX_VERTICES}

-- a bucket of a size and a seed, by the image of its n cells
abbrev pub bucket_of_image : ℕ → ℕ → ℕ → List ℕ → Bucket
bucket_of_image size seed n image = record { size = size; seed = seed; cells = packed_cells 4 4 n image }

-- the image has as many bytes as n cells need, and by BDZ there are as many for a bucket that has keys
pub record FitsImage (size n : ℕ) (image : List ℕ) : Type 0 where
  pub few : n ≤ MAX_VERTICES
  pub whole : length image ≡ packed_len 4 n
  pub thirds : size ≢ 0 → IsThirds n

-- the bucket at an offset of a dump, whose cells are not checked
unfoldable pub bucket_in : Form → List ℕ → ℕ → ℕ → Result Bucket LoadFault
bucket_in v dump ratio at = do
  size ← field_at v.size dump at 0 v.most_size
  seed ← field_at w32 dump (at + byte_len v.size) 0 (most_seed size)
  image ← item_at dump (at + (byte_len v.size + 4)) (packed_len 4 (bucket_cells size ratio))
  Ok (bucket_of_image size seed (bucket_cells size ratio) image)

-- it has no keys if it does not lie in the dump
abbrev pub bucket_or_none : Result Bucket LoadFault → Bucket
bucket_or_none (Ok bucket) = bucket
bucket_or_none (Err fault) = no_bucket

-- a dump of a version with an index: for each bucket its offset in the dump, times 2^32, plus how many keys lie in the buckets before it
pub record IndexedBrz : Type 0 where
  pub version : Version
  pub keys : ℕ
  pub ratio : ℕ
  pub width : ℕ
  pub split : ℕ
  pub dump : List ℕ
  pub index : List ℕ

-- the bucket of a number of the index
abbrev pub bucket_by : IndexedBrz → ℕ → Bucket
bucket_by f word = bucket_or_none (bucket_in (form_of f.version) f.dump f.ratio (word / 2 ^ 32))

-- the function that the dump is with this index
abbrev pub function_of : IndexedBrz → Brz
function_of f = record { keys = f.keys; ratio = f.ratio; width = f.width; split = f.split; buckets = map (bucket_by f) f.index }

-- the number of the index for a key's bucket
abbrev pub word_of : IndexedBrz → List ℕ → ℕ
word_of f key = slice_index f.index (bucket_of key f.split (length f.index))

-- where a key is looked up: the vertices in its bucket, and the bucket
abbrev pub indexed_place : IndexedBrz → List ℕ → List ℕ
indexed_place f key = ends_in (bucket_by f (word_of f key)) key ++ bucket_of key f.split (length f.index) ∷ []

-- a number in a bucket after those of the buckets before, and none if it is not below the bound
abbrev pub number_after : ℕ → ℕ → Option ℕ → Option ℕ
number_after bound before None = None
number_after bound before (Some r) = if_below bound (before + r)

-- the answer: that of the key's bucket, after as many numbers as the index says
abbrev pub indexed_answer : IndexedBrz → List ℕ → Option ℕ
indexed_answer f key = number_after f.keys (word_of f key % 2 ^ 32) (answer_in (bucket_by f (word_of f key)) key)

-- the index says for each bucket how many keys lie in those before it
abbrev pub HasOffsets : IndexedBrz → Type 0
HasOffsets f = (j : ℕ) → j < length f.index → slice_index f.index j % 2 ^ 32 ≡ offset_of (function_of f).buckets j

-- the numbers and the lengths of parts fit together
pub record FitsBrz (p : LentBrzParts) : Type 0 where
  pub keys : (1 ≤ p.keys) × (p.keys ≤ MAX_KEYS)
  pub ratio : IsRatio p.ratio
  pub few : length p.index.now ≤ MAX_KEYS
  pub some : 0 < length p.index.now
  pub scaled : p.scaled ≡ 2 ^ 32 / length p.index.now

-- what parts hold
abbrev pub brz_held : LentBrzParts → IndexedBrz
brz_held p = record { version = p.version; keys = p.keys; ratio = p.ratio; width = p.b; split = p.split; dump = p.dump.now; index = p.index.now }
