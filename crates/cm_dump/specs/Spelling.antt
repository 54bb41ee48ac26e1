-- The function that bytes spell, or their first fault.
use Rattle.std.specs.Prelude.{zero, suc, nat_lt, ◌&&◌, ◌||◌, ◌-◌, ◌+◌, ◌*◌, ℕ, Bool, List, [], ◌∷◌, length, nat_eq, ◌==◌, if◌then◌else◌, count_by, Result, Ok, Err}
use Rattle.std.specs.Cmp.Lexicographic.{pointwise}
use Rattle.std.specs.Int.{byte_len, to_le_bytes, w32}
use Rattle.cm_bdz.specs.Functions.{Bdz, BdzPh}
use Rattle.cm_bits.specs.Fault.{bytes_number, field_cells}
use Rattle.cm_bits.specs.Held.{packed_cells}
use Rattle.cm_brz_func.specs.Functions.{Brz, Bucket, bucket_cells, bucket_count, keys_in}
use Rattle.cm_brz_func.specs.Pushing.{with_bucket}
use Rattle.cm_dump_images.specs.Images.{fields_at, packed_at}
use Rattle.cm_dump_items.specs.declared.fault.LoadFault.{LoadFault}
use Rattle.cm_dump_items.specs.declared.fault.LoadFault.TheVariants as faults
use Rattle.cm_dump_items.specs.Reading.{◌>>=◌, field_at, item_at, end_at}
use Rattle.cm_rank.specs.Ranks.{sampled}
use Rattle.cm_spec.specs.Bdz.{bdz_size}
use Rattle.cm_spec.specs.Cells.{is_busy}
use Rattle.cm_spec.specs.Chm.{Chm, chm_size}
use Rattle.cm_spec.specs.Image.{width_of, fields_len, packed_len}
use Rattle.cm_dump.specs.declared.front.Algorithm.{Algorithm}
use Rattle.cm_dump.specs.declared.front.Algorithm.TheVariants as algorithm
use Rattle.cm_dump.specs.declared.front.Header.{Header}
use Rattle.cm_func.specs.declared.function.Func.{Func}
use Rattle.cm_func.specs.declared.function.Func.TheVariants as func
use Rattle.cm_dump.specs.Forms.{Form, form_of, version_of}
use Rattle.cm_dump.specs.Headings.{heading_at}
use Rattle.cm_dump.specs.declared.header.TheConstants.{HEADER_LEN}

-- the CHM function of a header and the cells after it
unfoldable pub chm_at : List ℕ → Header → Result Chm LoadFault
chm_at bytes h = do
  image ← fields_at bytes HEADER_LEN (chm_size h.keys h.ratio) h.keys
  ended ← end_at bytes (HEADER_LEN + fields_len (width_of h.keys) (chm_size h.keys h.ratio))
  Ok (record { keys = h.keys; ratio = h.ratio; seed = h.seed; cells = field_cells (width_of h.keys) (chm_size h.keys h.ratio) (bytes_number image) })

-- the BDZ function of a header and cells, of which as many are not 3 as there are keys
unfoldable pub counted : Header → List ℕ → Result Bdz LoadFault
counted h cells =
    if count_by (is_busy 3) cells == h.keys then Ok (record { keys = h.keys; ratio = h.ratio; seed = h.seed; shift = h.b; cells = cells }) else Err (faults.BadCount HEADER_LEN)

-- the ranks are there one after another, four bytes each
unfoldable pub ranks_at : List ℕ → ℕ → List ℕ → Result (Unit {0}) LoadFault
ranks_at bytes at [] = Ok tt
ranks_at bytes at (rank ∷ ranks) = do
  item ← item_at bytes at 4
  if pointwise nat_eq item (to_le_bytes w32 rank) then ranks_at bytes (at + 4) ranks else Err (faults.BadRank at)

-- the BDZ function of a header and cells, with the ranks after them
unfoldable pub ranked_at : List ℕ → Header → List ℕ → Result Bdz LoadFault
ranked_at bytes h cells = do
  f ← counted h cells
  ranked ← ranks_at bytes (HEADER_LEN + packed_len 4 (length cells)) (sampled 3 f.shift f.cells)
  ended ← end_at bytes (HEADER_LEN + packed_len 4 (length cells) + 4 * length (sampled 3 f.shift f.cells))
  Ok f

-- the BDZ function of a header, and the cells and ranks after it
unfoldable pub bdz_at : List ℕ → Header → Result Bdz LoadFault
bdz_at bytes h = do
  image ← packed_at bytes HEADER_LEN 4 4 (bdz_size h.keys h.ratio)
  ranked_at bytes h (packed_cells 4 4 (bdz_size h.keys h.ratio) image)

-- the BDZ_PH function of a header and the cells after it
unfoldable pub bdz_ph_at : List ℕ → Header → Result BdzPh LoadFault
bdz_ph_at bytes h = do
  image ← packed_at bytes HEADER_LEN 3 5 (bdz_size h.keys h.ratio)
  ended ← end_at bytes (HEADER_LEN + packed_len 5 (bdz_size h.keys h.ratio))
  Ok (record { keys = h.keys; ratio = h.ratio; seed = h.seed; cells = packed_cells 3 5 (bdz_size h.keys h.ratio) image })

-- whether a function has too many keys in its buckets, or too few if none of its buckets is left
abbrev pub is_off : ℕ → ℕ → ℕ → Bool
is_off keys held left = nat_lt keys held || (left == 0 && nat_lt held keys)

-- the number of keys of a function's next bucket, after which `left` buckets follow
unfoldable pub size_at : Form → List ℕ → ℕ → Brz → ℕ → Result ℕ LoadFault
size_at v bytes at f left = do
  size ← field_at v.size bytes at 0 v.most_size
  if is_off f.keys (keys_in f.buckets + size) left then Err (faults.BadCount at) else Ok size

-- the greatest seed of a bucket of a size: an empty one has the seed 0
abbrev pub most_seed : ℕ → ℕ
most_seed size = if size == 0 then 0 else 4294967295

-- the n cells of a bucket, of which as many are not 3 as it has keys
unfoldable pub crumbs_at : List ℕ → ℕ → ℕ → ℕ → Result (List ℕ) LoadFault
crumbs_at bytes at size n = do
  image ← packed_at bytes at 4 4 n
  if count_by (is_busy 3) (packed_cells 4 4 n image) == size then Ok (packed_cells 4 4 n image) else Err (faults.BadCount at)

-- a function's next bucket, after which `left` buckets follow
unfoldable pub bucket_at : Form → List ℕ → ℕ → Brz → ℕ → Result Bucket LoadFault
bucket_at v bytes at f left = do
  size ← size_at v bytes at f left
  seed ← field_at w32 bytes (at + byte_len v.size) 0 (most_seed size)
  cells ← crumbs_at bytes (at + (byte_len v.size + 4)) size (bucket_cells size f.ratio)
  Ok (record { size = size; seed = seed; cells = cells })

-- how many bytes a bucket has
abbrev pub bucket_len : Form → Bucket → ℕ
bucket_len v bucket = byte_len v.size + 4 + packed_len 4 (length bucket.cells)

-- a function with some more buckets, which are the last that the bytes have
unfoldable pub rest_at : Form → List ℕ → ℕ → ℕ → Brz → Result Brz LoadFault
rest_at v bytes at zero f = do
  ended ← end_at bytes at
  Ok f
rest_at v bytes at (suc left) f = do
  bucket ← bucket_at v bytes at f left
  rest_at v bytes (at + bucket_len v bucket) left (with_bucket f bucket)

-- how many buckets of a function are to come
abbrev pub left_of : Brz → ℕ
left_of f = bucket_count f.keys f.width - length f.buckets

-- the function of a header that has no bucket yet
abbrev pub no_buckets : Header → Brz
no_buckets h = record { keys = h.keys; ratio = h.ratio; width = h.b; split = h.seed; buckets = [] }

-- the BRZ function of a header and the buckets after it
unfoldable pub brz_at : Form → List ℕ → Header → Result Brz LoadFault
brz_at v bytes h = rest_at v bytes HEADER_LEN (bucket_count h.keys h.b) (no_buckets h)

-- the function of a header and what is after it
abbrev pub body_at : Form → List ℕ → Header → Algorithm → Result Func LoadFault
body_at v bytes h algorithm.Chm = do
  f ← chm_at bytes h
  Ok (func.Chm f)
body_at v bytes h algorithm.Bdz = do
  f ← bdz_at bytes h
  Ok (func.Bdz f)
body_at v bytes h algorithm.BdzPh = do
  f ← bdz_ph_at bytes h
  Ok (func.BdzPh f)
body_at v bytes h algorithm.Brz = do
  f ← brz_at v bytes h
  Ok (func.Brz f)

-- the function whose dump of a version the bytes are, or the first fault of the bytes
unfoldable pub spelling_by : Form → List ℕ → Result Func LoadFault
spelling_by v bytes = do
  h ← heading_at v bytes
  body_at v bytes h h.algorithm

-- the same by the version that the bytes name
abbrev pub spelling_of : List ℕ → Result Func LoadFault
spelling_of bytes = spelling_by (form_of (version_of bytes)) bytes
