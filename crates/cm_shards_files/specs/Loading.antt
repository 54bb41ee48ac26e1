-- The functions that a manifest and its function files come to. The first file that is missing or at fault decides, in this order: the
-- manifest, and the function files in the order of the shards.
use Rattle.std.specs.Prelude.{◌≡◌, ◌≤◌, ◌++◌, ◌==◌, ◌&&◌, ℕ, Bool, List, [], ◌∷◌, length, take, nat_eq, Option, None, Some, Result, Ok, Err, if◌then◌else◌}
use Rattle.std.specs.Cmp.Lexicographic.{pointwise}
use Rattle.cm_algo_names.specs.declared.algorithm.Algorithm.{Algorithm}
use Rattle.cm_dump_items.specs.declared.fault.LoadFault.{LoadFault}
use Rattle.cm_func.specs.Functions.{span_by}
use Rattle.cm_func.specs.declared.function.Func.{Func}
use Rattle.cm_io.specs.Causes.{Rose}
use Rattle.cm_io.specs.Files.{Files, file_at}
use Rattle.cm_io.specs.States.{DiskState}
use Rattle.cm_shards_files.specs.FunctionFiles.{function_file_in, is_by, keys_by}
use Rattle.cm_shards_files.specs.Shards.{Sharded}
use Rattle.cm_shards_files.specs.declared.fault.ShardsFault.{ShardsFault}
use Rattle.cm_shards_files.specs.declared.fault.ShardsFault.TheVariants.{Memory, NoManifest, BadManifest, NoFunction, BadFunction, Another}
use Rattle.cm_shards_files.specs.declared.file.FunctionFile.{FunctionFile}
use Rattle.cm_shards_manifest.specs.ManifestFiles.{manifest_in}
use Rattle.cm_shards_manifest.specs.Manifests.{Manifest}
use Rattle.cm_shards_manifest.specs.Paths.{path_of}
use Rattle.cm_shards_manifest.specs.declared.fault.ManifestFault.{ManifestFault}
use Rattle.cm_shards_manifest.specs.declared.shard.Shard.{Shard}

-- A step that reads a disk changes no file.
pub record ChangesNoFile (old new : DiskState) : Type 0 where
  pub files : new.files ≡ old.files
  pub spilled : new.spilled ≡ old.spilled
  pub write_faults : new.write_faults ≡ old.write_faults

-- These are the first bytes of the file of a path, up to a limit.
pub record Begins (files : Files) (path : List ℕ) (limit : ℕ) (begin : List ℕ) : Type 0 where
  pub bytes : List ℕ
  pub there : file_at files path ≡ Some bytes
  pub first : begin ≡ take limit bytes

-- These bytes decide which manifest the file of a path has, or which fault.
pub record DecidesManifest (files : Files) (path begin : List ℕ) : Type 0 where
  pub bytes : List ℕ
  pub there : file_at files path ≡ Some bytes
  pub same : manifest_in begin ≡ manifest_in bytes

-- a function file is the one that a manifest speaks of: its algorithm, its number of keys, its span, its length and its digest are
abbrev pub is_of : Algorithm → Shard → FunctionFile → Bool
is_of a s file =
    is_by a file.function && keys_by file.function == s.keys && span_by file.function == s.span
    && file.len == s.len && pointwise nat_eq file.digest s.digest

-- the function of a shard, by what its file at a path is
abbrev pub function_unless : Algorithm → Shard → List ℕ → Result FunctionFile LoadFault → Result Func ShardsFault
function_unless a s path (Ok file) = if is_of a s file then Ok file.function else Err (Another path)
function_unless a s path (Err fault) = Err (BadFunction path fault)

abbrev pub function_in : Algorithm → Shard → List ℕ → List ℕ → Result Func ShardsFault
function_in a s path bytes = function_unless a s path (function_file_in bytes)

-- a function, and those after it, unless one is at fault
abbrev pub followed : Func → Result (List Func) ShardsFault → Result (List Func) ShardsFault
followed f (Ok functions) = Ok (f ∷ functions)
followed f (Err fault) = Err fault

abbrev pub followed_by : Func → Option (Result (List Func) ShardsFault) → Option (Result (List Func) ShardsFault)
followed_by f None = None
followed_by f (Some functions) = Some (followed f functions)

-- a function, or its fault, before those of further shards
abbrev pub and_then : Option (Result Func ShardsFault) → Option (Result (List Func) ShardsFault) → Option (Result (List Func) ShardsFault)
and_then None functions = None
and_then (Some (Err fault)) functions = Some (Err fault)
and_then (Some (Ok f)) functions = followed_by f functions

-- the function of a shard, by the bytes of its file, or none if there is no such file
abbrev pub function_if : Algorithm → Shard → List ℕ → Option (List ℕ) → Option (Result Func ShardsFault)
function_if a s path None = None
function_if a s path (Some bytes) = Some (function_in a s path bytes)

-- the function of a shard of the manifest of a path
abbrev pub function_of : Files → List ℕ → Algorithm → Shard → Option (Result Func ShardsFault)
function_of files manifest a s = function_if a s (path_of manifest s.name) (file_at files (path_of manifest s.name))

-- the functions of shards, or none if the first file that decides is missing
unfoldable pub functions_of : Files → List ℕ → Algorithm → List Shard → Option (Result (List Func) ShardsFault)
functions_of files manifest a [] = Some (Ok [])
functions_of files manifest a (s ∷ shards) = and_then (function_of files manifest a s) (functions_of files manifest a shards)

-- the shards of a manifest, by their functions
abbrev pub sharded_by : Manifest → Result (List Func) ShardsFault → Result Sharded ShardsFault
sharded_by m (Ok functions) = Ok (record { route = record { seed = m.seed; shards = length m.shards }; functions = functions })
sharded_by m (Err fault) = Err fault

abbrev pub sharded_if : Manifest → Option (Result (List Func) ShardsFault) → Option (Result Sharded ShardsFault)
sharded_if m None = None
sharded_if m (Some functions) = Some (sharded_by m functions)

abbrev pub shards_unless : Files → List ℕ → Result Manifest ManifestFault → Option (Result Sharded ShardsFault)
shards_unless files path (Ok m) = sharded_if m (functions_of files path m.algorithm m.shards)
shards_unless files path (Err fault) = Some (Err (BadManifest fault))

abbrev pub shards_if : Files → List ℕ → Option (List ℕ) → Option (Result Sharded ShardsFault)
shards_if files path None = None
shards_if files path (Some bytes) = shards_unless files path (manifest_in bytes)

-- what the manifest of a path and its function files come to, or none if the first file that decides is missing
abbrev pub shards_of : Files → List ℕ → Option (Result Sharded ShardsFault)
shards_of files path = shards_if files path (file_at files path)

-- A path is that of the function file of one of these shards of a manifest, and the function files of those before it are theirs.
pub record IsReached (files : Files) (manifest path : List ℕ) (a : Algorithm) (shards : List Shard) : Type 0 where
  pub shard : Shard
  pub before : List Shard
  pub after : List Shard
  pub functions : List Func
  pub shards_are : shards ≡ before ++ shard ∷ after
  pub sound : functions_of files manifest a before ≡ Some (Ok functions)
  pub path_is : path ≡ path_of manifest shard.name

-- the bytes of the manifest of a path spell it
abbrev pub SpellsManifest : Files → List ℕ → Manifest → Type 0
SpellsManifest files path m = (bytes : List ℕ) × (file_at files path ≡ Some bytes) × (manifest_in bytes ≡ Ok m)

-- they spell one, and the function file of a path is the first that was not loaded
abbrev pub StopsAt : Files → List ℕ → List ℕ → Type 0
StopsAt files manifest path = (m : Manifest) × SpellsManifest files manifest m × IsReached files manifest path m.algorithm m.shards

-- What was loaded is what the files come to. Memory may run out and a file may fail to be read at any time; the function file that could
-- not be read is the first that was not loaded.
abbrev pub LoadsShards : Files → List ℕ → Result Sharded ShardsFault → Type 0
LoadsShards files manifest (Ok s) = shards_of files manifest ≡ Some (Ok s)
LoadsShards files manifest (Err Memory) = Unit {0}
LoadsShards files manifest (Err NoManifest) = Unit {0}
LoadsShards files manifest (Err (BadManifest fault)) = shards_of files manifest ≡ Some (Err (BadManifest fault))
LoadsShards files manifest (Err (NoFunction path)) = StopsAt files manifest path
LoadsShards files manifest (Err (BadFunction path fault)) = shards_of files manifest ≡ Some (Err (BadFunction path fault))
LoadsShards files manifest (Err (Another path)) = shards_of files manifest ≡ Some (Err (Another path))

-- `NoManifest` and `NoFunction` exactly if the count of reading rose
abbrev pub IsShardsCause : ℕ → ℕ → ShardsFault → Type 0
IsShardsCause r r' NoManifest = (r ≤ r') × Rose r r'
IsShardsCause r r' (NoFunction path) = (r ≤ r') × Rose r r'
IsShardsCause r r' fault = r' ≡ r

abbrev pub HasShardsCause : {T : Type 0} → ℕ → ℕ → Result T ShardsFault → Type 0
HasShardsCause r r' (Ok x) = r' ≡ r
HasShardsCause r r' (Err fault) = IsShardsCause r r' fault
