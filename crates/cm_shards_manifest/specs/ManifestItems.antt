-- The items of a manifest, each at its offset, and the first fault.
use Rattle.std.specs.Prelude.{ℕ, ◌+◌, ◌==◌, zero, suc, List, [], ◌∷◌, nat_eq, Result, Ok, Err, if◌then◌else◌}
use Rattle.std.specs.Cmp.Lexicographic.{pointwise}
use Rattle.std.specs.Int.{w8, w16, w32, w64}
use Rattle.std.specs.Str.{is_utf8}
use Rattle.cm_algo_names.specs.declared.algorithm.Algorithm.{Algorithm}
use Rattle.cm_algo_names.specs.declared.algorithm.Algorithm.TheVariants as algorithm
use Rattle.cm_dump_items.specs.declared.fault.LoadFault.{LoadFault}
use Rattle.cm_dump_items.specs.declared.fault.LoadFault.TheVariants as faults
use Rattle.cm_dump_items.specs.Reading.{◌>>=◌, field_at, item_at, zeros_at}
use Rattle.cm_route.specs.declared.route.TheConstants.{MAX_SHARDS}
use Rattle.cm_spec.specs.declared.limits.TheConstants.{MAX_KEYS, MAX_VERTICES}
use Rattle.cm_shards_manifest.specs.ManifestBytes.{manifest_magic, shard_len}
use Rattle.cm_shards_manifest.specs.Manifests.{Manifest}
use Rattle.cm_shards_manifest.specs.declared.header.Header.{Header}
use Rattle.cm_shards_manifest.specs.declared.header.TheConstants.{HEADER_LEN}
use Rattle.cm_shards_manifest.specs.declared.limits.TheConstants.{MAX_NAME}
use Rattle.cm_shards_manifest.specs.declared.shard.Shard.{Shard}

-- the algorithm of a number from 1 to 4
abbrev pub algorithm_of : ℕ → Algorithm
algorithm_of number =
    if number == 1 then algorithm.Chm else if number == 2 then algorithm.Bdz else if number == 3 then algorithm.BdzPh else algorithm.Brz

-- the first bytes are the magic
unfoldable pub magic_at : List ℕ → Result (Unit {0}) LoadFault
magic_at bytes = do
  item ← item_at bytes 0 8
  if pointwise nat_eq item manifest_magic then Ok tt else Err faults.BadMagic

-- the header: the magic, the number of an algorithm, three zeros, any seed, and from 1 to `MAX_SHARDS` shards
unfoldable pub header_at : List ℕ → Result Header LoadFault
header_at bytes = do
  begun ← magic_at bytes
  number ← field_at w8 bytes 8 1 4
  none ← zeros_at bytes 9 3
  seed ← field_at w32 bytes 12 0 4294967295
  shards ← field_at w32 bytes 16 1 MAX_SHARDS
  Ok (record { algorithm = algorithm_of number; seed = seed; shards = shards })

-- the name of n bytes at an offset
unfoldable pub name_at : List ℕ → ℕ → ℕ → Result (List ℕ) LoadFault
name_at bytes at n = do
  item ← item_at bytes at n
  if is_utf8 item then Ok item else Err (faults.BadField at)

-- what follows the name of a shard, at an offset, if the spans before it have this sum
unfoldable pub rest_at : List ℕ → ℕ → ℕ → List ℕ → Result Shard LoadFault
rest_at bytes at before name = do
  keys ← field_at w32 bytes at 1 MAX_KEYS
  span ← field_at w32 bytes (at + 4) 1 MAX_VERTICES
  offset ← field_at w64 bytes (at + 8) before before
  len ← field_at w64 bytes (at + 16) 0 18446744073709551615
  digest ← item_at bytes (at + 24) 32
  Ok (record { name = name; keys = keys; span = span; offset = offset; len = len; digest = digest })

-- the shard at an offset, after shards whose spans have this sum
unfoldable pub shard_at : List ℕ → ℕ → ℕ → Result Shard LoadFault
shard_at bytes at before = do
  n ← field_at w16 bytes at 1 MAX_NAME
  name ← name_at bytes (at + 2) n
  rest_at bytes (at + 2 + n) before name

-- the n shards from an offset on
unfoldable pub shards_at : List ℕ → ℕ → ℕ → ℕ → Result (List Shard) LoadFault
shards_at bytes at before zero = Ok []
shards_at bytes at before (suc n) = do
  s ← shard_at bytes at before
  shards ← shards_at bytes (at + shard_len s) (before + s.span) n
  Ok (s ∷ shards)

-- the manifest of the header and the shards
unfoldable pub manifest_at : List ℕ → Result Manifest LoadFault
manifest_at bytes = do
  h ← header_at bytes
  shards ← shards_at bytes HEADER_LEN 0 h.shards
  Ok (record { algorithm = h.algorithm; seed = h.seed; shards = shards })
