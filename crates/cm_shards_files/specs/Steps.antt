-- What each step of loading the functions of a manifest returns.
use Rattle.std.specs.Prelude.{◌≡◌, ℕ, List, Some, Result, Ok, Err, if◌then◌else◌}
use Rattle.cm_algo_names.specs.declared.algorithm.Algorithm.{Algorithm}
use Rattle.cm_dump_items.specs.declared.fault.LoadFault.{LoadFault}
use Rattle.cm_func.specs.declared.function.Func.{Func}
use Rattle.cm_io.specs.Files.{Files, file_at}
use Rattle.cm_shards_files.specs.Loading.{IsReached, SpellsManifest, function_of, functions_of, is_of}
use Rattle.cm_shards_files.specs.declared.fault.ShardsFault.{ShardsFault}
use Rattle.cm_shards_files.specs.declared.fault.ShardsFault.TheVariants.{Memory, NoManifest, BadManifest, NoFunction, BadFunction, Another}
use Rattle.cm_shards_files.specs.declared.file.FunctionFile.{FunctionFile}
use Rattle.cm_shards_manifest.specs.ManifestFiles.{manifest_in}
use Rattle.cm_shards_manifest.specs.Manifests.{Manifest}
use Rattle.cm_shards_manifest.specs.Paths.{path_of}
use Rattle.cm_shards_manifest.specs.declared.fault.ManifestFault.{ManifestFault}
use Rattle.cm_shards_manifest.specs.declared.fault.ManifestUnread.{ManifestUnread}
use Rattle.cm_shards_manifest.specs.declared.fault.ManifestUnread.TheVariants as unread
use Rattle.cm_shards_manifest.specs.declared.shard.Shard.{Shard}
use Rattle.cm_tool_asking.specs.declared.unloaded.Unloaded.{Unloaded}
use Rattle.cm_tool_asking.specs.declared.unloaded.Unloaded.TheVariants as unloaded

-- why a manifest that was not read ends a load
abbrev pub fault_unread : ManifestUnread → ShardsFault
fault_unread unread.Memory = Memory
fault_unread (unread.Bad fault) = BadManifest fault

-- the bytes of the manifest of a path have a fault
abbrev pub IsBadManifest : Files → List ℕ → ManifestFault → Type 0
IsBadManifest files path fault = (bytes : List ℕ) × (file_at files path ≡ Some bytes) × (manifest_in bytes ≡ Err fault)

-- what was read of the manifest of a path
abbrev pub ReadsManifest : Files → List ℕ → Result Manifest ShardsFault → Type 0
ReadsManifest files path (Ok m) = SpellsManifest files path m
ReadsManifest files path (Err Memory) = Unit {0}
ReadsManifest files path (Err NoManifest) = Unit {0}
ReadsManifest files path (Err (BadManifest fault)) = IsBadManifest files path fault
ReadsManifest files path (Err fault) = ⊥

-- the function of a shard, by what was loaded from its file, or why there is none
abbrev pub taken : Algorithm → Shard → List ℕ → Result FunctionFile (Unloaded LoadFault) → Result Func ShardsFault
taken a s path (Ok file) = if is_of a s file then Ok file.function else Err (Another path)
taken a s path (Err unloaded.Memory) = Err Memory
taken a s path (Err unloaded.Read) = Err (NoFunction path)
taken a s path (Err (unloaded.Bad fault)) = Err (BadFunction path fault)

-- what was loaded for a shard
abbrev pub LoadsFunction : Files → List ℕ → Algorithm → Shard → Result Func ShardsFault → Type 0
LoadsFunction files manifest a s (Ok f) = function_of files manifest a s ≡ Some (Ok f)
LoadsFunction files manifest a s (Err Memory) = Unit {0}
LoadsFunction files manifest a s (Err NoManifest) = ⊥
LoadsFunction files manifest a s (Err (BadManifest fault)) = ⊥
LoadsFunction files manifest a s (Err (NoFunction path)) = path ≡ path_of manifest s.name
LoadsFunction files manifest a s (Err (BadFunction path fault)) = function_of files manifest a s ≡ Some (Err (BadFunction path fault))
LoadsFunction files manifest a s (Err (Another path)) = function_of files manifest a s ≡ Some (Err (Another path))

-- what was loaded for shards, seen by view
abbrev pub LoadsFunctions : {X : Type 0} → (X → List Func) → Files → List ℕ → Algorithm → List Shard → Result X ShardsFault → Type 0
LoadsFunctions view files manifest a shards (Ok x) = functions_of files manifest a shards ≡ Some (Ok (view x))
LoadsFunctions view files manifest a shards (Err Memory) = Unit {0}
LoadsFunctions view files manifest a shards (Err NoManifest) = ⊥
LoadsFunctions view files manifest a shards (Err (BadManifest fault)) = ⊥
LoadsFunctions view files manifest a shards (Err (NoFunction path)) = IsReached files manifest path a shards
LoadsFunctions view files manifest a shards (Err (BadFunction path fault)) = functions_of files manifest a shards ≡ Some (Err (BadFunction path fault))
LoadsFunctions view files manifest a shards (Err (Another path)) = functions_of files manifest a shards ≡ Some (Err (Another path))
