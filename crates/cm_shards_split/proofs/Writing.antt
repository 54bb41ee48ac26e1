-- What appending to the file of a shard makes of the files of a split.
use Rattle.std.proofs.Common.{◌≡◌, ◌∙◌, ℕ, ◌<◌, ◌≤◌, List, [], ◌++◌, length, get_or, set, Option, None, Some, unwrap_or, ap, refl}
use Rattle.std.specs.FinMap as map
use Rattle.std.specs.Option.{option_map}
use Rattle.std.specs.Prelude.{is_some}
use Rattle.cm_io.specs.Files.{Files, IsThere}
use Rattle.cm_io_append.specs.Extending.{extended}
use Rattle.cm_shards_split.specs.Names.{shard_path}
use Rattle.cm_shards_split.specs.Placed.{placed}
use Rattle.cm_shards_split.specs.PlacedLaws.{placed_at, placed_set}

-- the file of a shard is there
pub shard_there : (dir : List ℕ) (base : Option Files) (written : List (List ℕ)) (k : ℕ) → k < length written → length written ≤ 10000 → IsThere (shard_path dir k) (option_map (placed dir written []) base)
shard_there dir None written k inside few = tt
shard_there dir (Some files) written k inside few = ap is_some (placed_at dir k written [] files inside few)

-- a piece behind its bytes
pub shard_extended : (dir : List ℕ) (base : Option Files) (written : List (List ℕ)) (k : ℕ) (piece : List ℕ) → k < length written → length written ≤ 10000
    → extended (shard_path dir k) piece (option_map (placed dir written []) base) ≡ option_map (placed dir (set written k (get_or written k [] ++ piece)) []) base
shard_extended dir None written k piece inside few = refl
shard_extended dir (Some files) written k piece inside few =
    ap (λ (found : Option (List ℕ)). Some (map.insert (placed dir written [] files) (shard_path dir k) (unwrap_or found [] ++ piece))) (placed_at dir k written [] files inside few)
    ∙ ap Some (placed_set dir k written [] (get_or written k [] ++ piece) files inside few)
