-- The files of a split, created one after another.
use Rattle.std.proofs.Common.{◌≡◌, ◌∙◌, ℕ, ◌+◌, ◌<◌, List, [], length, replicate, Option, None, Some, ap, sym, arith}
use Rattle.std.specs.FinMap as map
use Rattle.std.proofs.lemmas.List.{length-replicate, replicate_more}
use Rattle.cm_io.specs.Files.{Files, with_file}
use Rattle.cm_shards_split.specs.Names.{counts_path, shard_path}
use Rattle.cm_shards_split.specs.Parts.{Written}
use Rattle.cm_shards_split.specs.Placed.{placed}
use Rattle.cm_shards_split.specs.PlacedLaws.{placed_next, placed_none}

-- that of the counts was created
pub counts_created : (dir path : List ℕ) (old new : Option Files) → path ≡ counts_path dir → new ≡ with_file path [] old → Written dir old [] new
counts_created dir path None new is created = created
counts_created dir path (Some files) new is created = created ∙ ap (λ (p : List ℕ). Some (map.insert files p [])) is ∙ ap Some (placed_none dir [] files)

-- and that of one shard more
pub shard_created : (dir : List ℕ) (base : Option Files) (i : ℕ) (path : List ℕ) (old new : Option Files) → Written dir base (replicate i []) old → path ≡ shard_path dir i → i < 10000 → new ≡ with_file path [] old → Written dir base (replicate (i + 1) []) new
shard_created dir None i path old new written is few created = created ∙ ap (with_file path []) written
shard_created dir (Some files) i path old new written is few created =
    let long : length (replicate {A = List ℕ} i []) ≡ i = length-replicate i [] in
    created
    ∙ ap (with_file path []) written
    ∙ ap (λ (p : List ℕ). Some (map.insert (placed dir (replicate i []) [] files) p [])) (is ∙ ap (shard_path dir) (sym long))
    ∙ ap Some (placed_next dir (replicate i []) [] [] files (omega (arith, few, long)))
    ∙ ap (λ (l : List (List ℕ)). Some (placed dir l [] files)) (replicate_more i [])
