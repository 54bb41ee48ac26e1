-- What is joined is what is asked.
use Rattle.std.specs.Prelude.{◌≡◌, ℕ, List, [], ◌∷◌, length, Some, Ok}
use Rattle.std.specs.FinMap as map
use Rattle.cm_func.specs.declared.function.Func.{Func}
use Rattle.cm_io.specs.Files.{Files, file_at}
use Rattle.cm_route.specs.declared.route.TheConstants.{ROUTE_SEED}
use Rattle.cm_shards_files.specs.FunctionFiles.{function_file_in}
use Rattle.cm_shards_files.specs.Loading.{shards_of}
use Rattle.cm_shards_files.specs.Shards.{Sharded}
use Rattle.cm_shards_files.specs.declared.file.FunctionFile.{FunctionFile}
use Rattle.cm_shards_join.specs.Inputs.{path_for}
use Rattle.cm_shards_manifest.specs.ManifestBytes.{manifest_bytes}
use Rattle.cm_shards_manifest.specs.Manifests.{Manifest}
use Rattle.cm_shards_words.specs.declared.jobs.JoinJob.{JoinJob}

-- The file of a path is a function file, with this function.
pub record IsFileOf (files : Files) (path : List ℕ) (f : Func) : Type 0 where
  pub bytes : List ℕ
  pub file : FunctionFile
  pub there : file_at files path ≡ Some bytes
  pub spells : function_file_in bytes ≡ Ok file
  pub is : file.function ≡ f

-- the function files of these arguments have these functions, in their order
abbrev pub AreFilesOf : Files → List ℕ → List (List ℕ) → List Func → Type 0
AreFilesOf files manifest [] [] = Unit {0}
AreFilesOf files manifest (a ∷ arguments) (f ∷ functions) = IsFileOf files (path_for manifest a) f × AreFilesOf files manifest arguments functions
AreFilesOf files manifest _ _ = ⊥

-- these functions, one for each shard
abbrev pub sharded : List Func → Sharded
sharded functions = record { route = record { seed = ROUTE_SEED; shards = length functions }; functions = functions }

-- The manifest of a join is saved: it has the functions of the function files, in the order of the arguments, and what asks it finds these.
pub record IsAsked (job : JoinJob) (files : Files) (m : Manifest) : Type 0 where
  pub functions : List Func
  pub are : AreFilesOf files job.manifest job.functions functions
  pub each : length functions ≡ length job.functions
  pub asked : shards_of (map.insert files job.manifest (manifest_bytes m)) job.manifest ≡ Some (Ok (sharded functions))
