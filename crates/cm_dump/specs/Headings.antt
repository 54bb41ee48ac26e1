-- The header of a dump, as it is read.
use Rattle.std.specs.Prelude.{ℕ, ◌+◌, ◌-◌, ◌≤◌, List, Result, Ok, Err, ◌==◌, nat_eq, slice_index, if◌then◌else◌}
use Rattle.std.specs.Cmp.Lexicographic.{pointwise}
use Rattle.std.specs.Int.{byte_len, w32}
use Rattle.cm_dump_items.specs.declared.fault.LoadFault.{LoadFault}
use Rattle.cm_dump_items.specs.declared.fault.LoadFault.TheVariants as faults
use Rattle.cm_dump_items.specs.Reading.{◌>>=◌, item_at, field_at, zeros_at}
use Rattle.cm_dump.specs.declared.front.Algorithm.{Algorithm}
use Rattle.cm_dump.specs.declared.front.Algorithm.TheVariants as algorithm
use Rattle.cm_dump.specs.declared.front.Header.{Header}
use Rattle.cm_dump.specs.Forms.{Form}

-- the first bytes of every dump of a version
unfoldable pub magic_at : Form → List ℕ → Result (Unit {0}) LoadFault
magic_at v bytes = do
  item ← item_at bytes 0 8
  if pointwise nat_eq item v.magic then Ok tt else Err faults.BadMagic

-- the algorithm of a number: 1 is CHM's, 2 BDZ's, 3 BDZ_PH's and 4 BRZ's
abbrev pub algorithm_of : ℕ → Result Algorithm LoadFault
algorithm_of number =
    if number == 1 then Ok algorithm.Chm else if number == 2 then Ok algorithm.Bdz else if number == 3 then Ok algorithm.BdzPh else if number == 4 then Ok algorithm.Brz else Err faults.BadAlgorithm

-- the number of an algorithm
unfoldable pub algorithm_at : List ℕ → Result Algorithm LoadFault
algorithm_at bytes = do
  item ← item_at bytes 8 1
  algorithm_of (slice_index item 0)

-- the least and the greatest parameter b of an algorithm: BDZ has how far apart its ranks are as a power of 2, BRZ how many keys
-- a bucket has on average, and the others have none
abbrev pub least_b : Form → Algorithm → ℕ
least_b v algorithm.Chm = 0
least_b v algorithm.Bdz = 3
least_b v algorithm.BdzPh = 0
least_b v algorithm.Brz = v.least_width

abbrev pub most_b : Form → Algorithm → ℕ
most_b v algorithm.Chm = 0
most_b v algorithm.Bdz = 10
most_b v algorithm.BdzPh = 0
most_b v algorithm.Brz = v.most_width

-- the parameter is in the range of its algorithm
abbrev pub IsParameter : Form → Algorithm → ℕ → Type 0
IsParameter v a b = (least_b v a ≤ b) × (b ≤ most_b v a)

-- the parameter b of an algorithm between zeros
unfoldable pub parameter_at : Form → List ℕ → Algorithm → Result ℕ LoadFault
parameter_at v bytes a = do
  before ← zeros_at bytes 9 (v.b_at - 9)
  b ← field_at v.b bytes v.b_at (least_b v a) (most_b v a)
  after ← zeros_at bytes (v.b_at + byte_len v.b) (12 - (v.b_at + byte_len v.b))
  Ok b

-- what follows the magic: the algorithm's number, its parameter b, the number of keys, the ratio in millionths and the seed
unfoldable pub header_at : Form → List ℕ → Result Header LoadFault
header_at v bytes = do
  a ← algorithm_at bytes
  b ← parameter_at v bytes a
  keys ← field_at w32 bytes 12 1 v.most_keys
  ratio ← field_at w32 bytes 16 1000000 10000000
  seed ← field_at w32 bytes 20 0 4294967295
  Ok (record { algorithm = a; b = b; keys = keys; ratio = ratio; seed = seed })

-- the magic, and the rest of the header
unfoldable pub heading_at : Form → List ℕ → Result Header LoadFault
heading_at v bytes = do
  begun ← magic_at v bytes
  header_at v bytes
