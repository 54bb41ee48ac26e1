-- The file of a manifest as bytes. Numbers are little-endian.
use Rattle.std.specs.Prelude.{ℕ, ◌+◌, List, [], ◌∷◌, ◌++◌, codes, length}
use Rattle.std.specs.Int.{to_le_bytes, w16, w32, w64}
use Rattle.std.specs.List.{concat}
use Rattle.sha2.specs.Sha256.{sha256}
use Rattle.cm_algo_names.specs.declared.algorithm.Algorithm.{Algorithm}
use Rattle.cm_algo_names.specs.declared.algorithm.Algorithm.TheVariants as algorithm
use Rattle.cm_shards_manifest.specs.Manifests.{Manifest}
use Rattle.cm_shards_manifest.specs.declared.shard.Shard.{Shard}

-- the first bytes of every manifest
abbrev pub manifest_magic : List ℕ
manifest_magic = codes "CMPHSHD1"

-- the number of an algorithm, as in function files
abbrev pub algorithm_number : Algorithm → ℕ
algorithm_number algorithm.Chm = 1
algorithm_number algorithm.Bdz = 2
algorithm_number algorithm.BdzPh = 3
algorithm_number algorithm.Brz = 4

-- the header: the magic, the algorithm and three zeros, the seed of the route, and the number of shards
unfoldable pub header_bytes : Algorithm → ℕ → ℕ → List ℕ
header_bytes a seed shards = concat (manifest_magic ∷ (algorithm_number a ∷ 0 ∷ 0 ∷ 0 ∷ []) ∷ to_le_bytes w32 seed ∷ to_le_bytes w32 shards ∷ [])

-- what follows the name of a shard: the number of keys, the span, the offset, the length of the function file and its digest
unfoldable pub rest_bytes : Shard → List ℕ
rest_bytes s = to_le_bytes w32 s.keys ++ (to_le_bytes w32 s.span ++ (to_le_bytes w64 s.offset ++ (to_le_bytes w64 s.len ++ s.digest)))

-- a shard: the name after its length, and the rest
unfoldable pub shard_bytes : Shard → List ℕ
shard_bytes s = to_le_bytes w16 (length s.name) ++ (s.name ++ rest_bytes s)

abbrev pub shards_bytes : List Shard → List ℕ
shards_bytes [] = []
shards_bytes (s ∷ shards) = shard_bytes s ++ shards_bytes shards

-- how many bytes a shard has, and how many all have
abbrev pub shard_len : Shard → ℕ
shard_len s = 58 + length s.name

abbrev pub shards_len : List Shard → ℕ
shards_len [] = 0
shards_len (s ∷ shards) = shard_len s + shards_len shards

-- the bytes that the digest is of
unfoldable pub signed_bytes : Manifest → List ℕ
signed_bytes m = header_bytes m.algorithm m.seed (length m.shards) ++ shards_bytes m.shards

-- the file of a manifest: the header, the shards, and the digest of these bytes
unfoldable pub manifest_bytes : Manifest → List ℕ
manifest_bytes m = signed_bytes m ++ sha256 (signed_bytes m)
