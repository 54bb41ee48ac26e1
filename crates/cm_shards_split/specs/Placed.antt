-- The files with those that a split makes.
use Rattle.std.specs.Prelude.{◌+◌, ℕ, List, [], ◌∷◌}
use Rattle.std.specs.FinMap as map
use Rattle.cm_io.specs.Files.{Files}
use Rattle.cm_shards_split.specs.Names.{counts_path, shard_path}

-- the files, with these bytes at the paths of the shards from k on
abbrev pub put_shares : List ℕ → ℕ → List (List ℕ) → Files → Files
put_shares dir k [] files = files
put_shares dir k (bytes ∷ parts) files = map.insert (put_shares dir (k + 1) parts files) (shard_path dir k) bytes

-- the files, with these bytes at the paths of the first shards, and this text at that of the counts
unfoldable pub placed : List ℕ → List (List ℕ) → List ℕ → Files → Files
placed dir parts text files = map.insert (put_shares dir 0 parts files) (counts_path dir) text
