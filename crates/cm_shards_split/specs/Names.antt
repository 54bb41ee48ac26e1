-- The paths of the files that a split makes.
use Rattle.std.specs.Prelude.{◌≡◌, ◌⊎◌, ℕ, ◌/◌, ◌%◌, ◌<◌, List, ◌++◌, codes}
use Rattle.std.specs.Fmt.{decimal}
use Rattle.std.specs.Path.{path_join}

-- the name of the file of a shard: its number in four digits, of which 4,096 shards need no more
abbrev pub shard_name : ℕ → List ℕ
shard_name k = codes "shard-" ++ (decimal (k / 1000 % 10) ++ (decimal (k / 100 % 10) ++ (decimal (k / 10 % 10) ++ decimal (k % 10))))

-- its path, in a folder
abbrev pub shard_path : List ℕ → ℕ → List ℕ
shard_path dir k = path_join dir (shard_name k)

-- the path of the file of the counts
abbrev pub counts_path : List ℕ → List ℕ
counts_path dir = path_join dir (codes "counts")

-- A path is one of those that a split makes: that of the counts, or of a shard. Paths are compared by their bytes.
abbrev pub Makes : List ℕ → ℕ → List ℕ → Type 0
Makes dir shards path = (path ≡ counts_path dir) ⊎ ((k : ℕ) × (k < shards) × (path ≡ shard_path dir k))
