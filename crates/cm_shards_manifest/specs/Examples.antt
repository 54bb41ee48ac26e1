-- Manifests that the worked examples are about.
use Rattle.std.specs.Prelude.{ℕ, List, [], ◌∷◌, ◌++◌, codes, replicate}
use Rattle.cm_algo_names.specs.declared.algorithm.Algorithm.TheVariants.{BdzPh}
use Rattle.cm_route.specs.declared.route.TheConstants.{ROUTE_SEED}
use Rattle.cm_shards_manifest.specs.Manifests.{Manifest}
use Rattle.cm_shards_manifest.specs.declared.shard.Shard.{Shard}

-- a digest of equal bytes
abbrev pub digest_of : ℕ → List ℕ
digest_of byte = replicate 32 byte

-- the functions of two shards, of two keys and of one
abbrev pub first_shard : Shard
first_shard = record { name = codes "a"; keys = 2; span = 9; offset = 0; len = 258; digest = digest_of 1 }

abbrev pub second_shard : Shard
second_shard = record { name = codes "bc"; keys = 1; span = 6; offset = 9; len = 31; digest = digest_of 2 }

abbrev pub two_shards : Manifest
two_shards = record { algorithm = BdzPh; seed = ROUTE_SEED; shards = first_shard ∷ second_shard ∷ [] }

-- the header of two shards, by the number of the algorithm
abbrev pub header : ℕ → List ℕ
header number = codes "CMPHSHD1" ++ number ∷ 0 ∷ 0 ∷ 0 ∷ 82 ∷ 65 ∷ 72 ∷ 83 ∷ 2 ∷ 0 ∷ 0 ∷ 0 ∷ []

-- the bytes of the first shard, and of the second, with the lowest byte of its offset
abbrev pub first_bytes : List ℕ
first_bytes = 1 ∷ 0 ∷ 97 ∷ 2 ∷ 0 ∷ 0 ∷ 0 ∷ 9 ∷ 0 ∷ 0 ∷ 0 ∷ 0 ∷ 0 ∷ 0 ∷ 0 ∷ 0 ∷ 0 ∷ 0 ∷ 0 ∷ 2 ∷ 1 ∷ 0 ∷ 0 ∷ 0 ∷ 0 ∷ 0 ∷ 0 ∷ digest_of 1

abbrev pub second_bytes : ℕ → List ℕ
second_bytes offset = 2 ∷ 0 ∷ 98 ∷ 99 ∷ 1 ∷ 0 ∷ 0 ∷ 0 ∷ 6 ∷ 0 ∷ 0 ∷ 0 ∷ offset ∷ 0 ∷ 0 ∷ 0 ∷ 0 ∷ 0 ∷ 0 ∷ 0 ∷ 31 ∷ 0 ∷ 0 ∷ 0 ∷ 0 ∷ 0 ∷ 0 ∷ 0 ∷ digest_of 2
