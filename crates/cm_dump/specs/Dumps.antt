-- The dumps of functions of all algorithms, in the form of a version: a header of 24 bytes, and the image of the cells, or of the
-- buckets. Numbers are little-endian.
use Rattle.std.specs.Prelude.{ℕ, List, [], ◌∷◌, ◌++◌, ◌+◌, ◌-◌, ◌≤◌, All, length, replicate}
use Rattle.std.specs.Int.{byte_len, to_le_bytes, w32}
use Rattle.std.specs.List.{concat, flat_map}
use Rattle.cm_bdz.specs.Functions.{Bdz, BdzPh}
use Rattle.cm_brz_func.specs.Functions.{Brz, Bucket}
use Rattle.cm_rank.specs.Ranks.{sampled}
use Rattle.cm_spec.specs.Chm.{Chm}
use Rattle.cm_spec.specs.Dump.{fields_image}
use Rattle.cm_spec.specs.Image.{packed_len, packed_byte}
use Rattle.cm_spec.specs.Lists.{list_of}
use Rattle.cm_func.specs.declared.function.Func.{Func}
use Rattle.cm_func.specs.declared.function.Func.TheVariants as func
use Rattle.cm_dump.specs.declared.versions.Version.TheVariants as version
use Rattle.cm_dump.specs.Forms.{Form, form_of, version_1}

-- the algorithm's number and its parameter b, in four bytes, of which the others are zero
abbrev pub kind_bytes : Form → ℕ → ℕ → List ℕ
kind_bytes v algorithm b = algorithm ∷ (replicate (v.b_at - 9) 0 ++ (to_le_bytes v.b b ++ replicate (12 - (v.b_at + byte_len v.b)) 0))

-- the header: the magic, the algorithm's number and its parameter b, the number of keys, the ratio in millionths and the seed
unfoldable pub header : Form → ℕ → ℕ → ℕ → ℕ → ℕ → List ℕ
header v algorithm b keys ratio seed = concat (v.magic ∷ kind_bytes v algorithm b ∷ to_le_bytes w32 keys ∷ to_le_bytes w32 ratio ∷ to_le_bytes w32 seed ∷ [])

-- the image of cells that are digits in base d, p of them a byte
unfoldable pub packed_image : ℕ → ℕ → List ℕ → List ℕ
packed_image d p cells = list_of (packed_byte d p cells) (packed_len p (length cells))

-- ranks, in four bytes each
unfoldable pub ranks_image : List ℕ → List ℕ
ranks_image ranks = flat_map (to_le_bytes w32) ranks

-- the dump of a CHM function: algorithm 1, no parameter, and cells below the number of keys
unfoldable pub chm_dump : Form → Chm → List ℕ
chm_dump v f = header v 1 0 f.keys f.ratio f.seed ++ fields_image f.keys f.cells

-- the dump of a BDZ function: algorithm 2, how far apart ranks are sampled as a power of 2, cells below 4, and then the ranks
-- of the cells that are not 3
unfoldable pub bdz_dump : Form → Bdz → List ℕ
bdz_dump v f = header v 2 f.shift f.keys f.ratio f.seed ++ (packed_image 4 4 f.cells ++ ranks_image (sampled 3 f.shift f.cells))

-- the dump of a BDZ_PH function: algorithm 3, no parameter, and cells below 3
unfoldable pub bdz_ph_dump : Form → BdzPh → List ℕ
bdz_ph_dump v f = header v 3 0 f.keys f.ratio f.seed ++ packed_image 3 5 f.cells

-- a bucket of a BRZ function: its number of keys, its seed in four bytes, and its cells below 4
unfoldable pub bucket_image : Form → Bucket → List ℕ
bucket_image v bucket = to_le_bytes v.size bucket.size ++ (to_le_bytes w32 bucket.seed ++ packed_image 4 4 bucket.cells)

-- buckets, one after another
unfoldable pub buckets_image : Form → List Bucket → List ℕ
buckets_image v buckets = flat_map (bucket_image v) buckets

-- the dump of a BRZ function: algorithm 4, how many keys a bucket has on average, and the buckets
unfoldable pub brz_dump : Form → Brz → List ℕ
brz_dump v f = header v 4 f.width f.keys f.ratio f.split ++ buckets_image v f.buckets

-- the dump of a function of any algorithm
abbrev pub dump_by : Form → Func → List ℕ
dump_by v (func.Chm f) = chm_dump v f
dump_by v (func.Bdz f) = bdz_dump v f
dump_by v (func.BdzPh f) = bdz_ph_dump v f
dump_by v (func.Brz f) = brz_dump v f

-- the dump that is written, in version 2
abbrev pub dump_of : Func → List ℕ
dump_of f = dump_by (form_of version.Two) f

-- the numbers of a function are within the limits of a version
abbrev pub HasDump : Form → Func → Type 0
HasDump v (func.Chm f) = f.keys ≤ v.most_keys
HasDump v (func.Bdz f) = f.keys ≤ v.most_keys
HasDump v (func.BdzPh f) = f.keys ≤ v.most_keys
HasDump v (func.Brz f) = (f.keys ≤ v.most_keys) × (f.width ≤ v.most_width) × All (λ bucket. bucket.size ≤ v.most_size) f.buckets

-- a function that has a dump of version 1
abbrev pub HasDump1 : Func → Type 0
HasDump1 f = HasDump version_1 f
