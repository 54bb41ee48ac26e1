-- What function files come to: a manifest, or why there is none.
use Rattle.std.specs.Prelude.{ℕ, ◌&&◌, nat_lt, nat_le, List, [], ◌∷◌, ◌++◌, length, map, Bool, true, false, Option, None, Some, option_map, Result, Ok, Err, if◌then◌else◌}
use Rattle.cm_algo_names.specs.declared.algorithm.Algorithm.{Algorithm}
use Rattle.cm_algo_names.specs.declared.algorithm.Algorithm.TheVariants as algorithm
use Rattle.cm_dump_items.specs.declared.fault.LoadFault.{LoadFault}
use Rattle.cm_func.specs.Functions.{span_by}
use Rattle.cm_io.specs.Files.{Files, file_at}
use Rattle.cm_route.specs.declared.route.TheConstants.{ROUTE_SEED}
use Rattle.cm_shards_files.specs.FunctionFiles.{algorithm_by, function_file_in, keys_by}
use Rattle.cm_shards_files.specs.declared.file.FunctionFile.{FunctionFile}
use Rattle.cm_shards_join.specs.Counts.{line_apart}
use Rattle.cm_shards_join.specs.declared.stop.JoinStop.{JoinStop}
use Rattle.cm_shards_join.specs.declared.stop.JoinStop.TheVariants as stop
use Rattle.cm_shards_manifest.specs.Manifests.{Manifest, spans}
use Rattle.cm_shards_manifest.specs.Paths.{name_of, path_of}
use Rattle.cm_shards_manifest.specs.declared.limits.TheConstants.{MAX_NAME}
use Rattle.cm_shards_manifest.specs.declared.shard.Shard.{Shard}
use Rattle.cm_shards_split.specs.Names.{counts_path}
use Rattle.cm_shards_split.specs.Shares.{counts_text}
use Rattle.cm_shards_words.specs.declared.jobs.JoinJob.{JoinJob}

-- What a step comes to, if the file that it needs is there: a value, or why there is no manifest.
abbrev pub Comes : Type 0 → Type 0
Comes A = Option (Result A JoinStop)

-- one step, and then the next with what it comes to
infixl 10 ◌>>=◌
abbrev pub ◌>>=◌ : {A B : Type 0} → Comes A → (A → Comes B) → Comes B
None >>= f = None
(Some (Err stop)) >>= f = Some (Err stop)
(Some (Ok x)) >>= f = f x

-- The functions that were taken so far: the algorithm of the first, and their shards.
pub record Taken : Type 0 where
  pub algorithm : Option Algorithm
  pub shards : List Shard

-- none yet
abbrev pub nothing : Taken
nothing = record { algorithm = None; shards = [] }

-- an algorithm is that of the first function, if there is one
abbrev pub same_algorithm : Algorithm → Algorithm → Bool
same_algorithm algorithm.Chm algorithm.Chm = true
same_algorithm algorithm.Bdz algorithm.Bdz = true
same_algorithm algorithm.BdzPh algorithm.BdzPh = true
same_algorithm algorithm.Brz algorithm.Brz = true
same_algorithm a b = false

abbrev pub fits : Option Algorithm → Algorithm → Bool
fits None a = true
fits (Some first) a = same_algorithm first a

-- the shard of a function file with this name, after shards whose spans have this sum
abbrev pub shard_by : List ℕ → ℕ → FunctionFile → Shard
shard_by name before f = record { name = name; keys = keys_by f.function; span = span_by f.function; offset = before; len = f.len; digest = f.digest }

-- the functions with one more
abbrev pub with_shard : Taken → List ℕ → FunctionFile → Taken
with_shard t name f = record { algorithm = Some (algorithm_by f.function); shards = t.shards ++ shard_by name (spans t.shards) f ∷ [] }

-- the function of a file of a path, which has this name
abbrev pub take_loaded : Taken → List ℕ → List ℕ → Result FunctionFile LoadFault → Result Taken JoinStop
take_loaded t path name (Err fault) = Err (stop.BadDump path fault)
take_loaded t path name (Ok f) = if fits t.algorithm (algorithm_by f.function) then Ok (with_shard t name f) else Err (stop.Another path)

-- a text is a name in a manifest
abbrev pub is_name : List ℕ → Bool
is_name name = nat_lt 0 (length name) && nat_le (length name) MAX_NAME

-- the function of this name, which is seen from the manifest
abbrev pub take_named : Files → List ℕ → Taken → List ℕ → Comes Taken
take_named files manifest t name = let path = path_of manifest name in
    if is_name name then option_map (λ bytes. take_loaded t path name (function_file_in bytes)) (file_at files path) else Some (Err (stop.BadName path))

-- the function of this argument
unfoldable pub take_function : Files → List ℕ → Taken → List ℕ → Comes Taken
take_function files manifest t function = take_named files manifest t (name_of manifest function)

-- the functions of these arguments, in order
unfoldable pub take_all : Files → List ℕ → Taken → List (List ℕ) → Comes Taken
take_all files manifest t [] = Some (Ok t)
take_all files manifest t (function ∷ functions) = do
  next ← take_function files manifest t function
  take_all files manifest next functions

-- the text of the numbers of keys of shards
abbrev pub keys_text : List Shard → List ℕ
keys_text shards = counts_text (map (λ s. s.keys) shards)

-- the counts are those of the shards, unless they differ at a line
abbrev pub counted_unless : List ℕ → Option ℕ → Result (Unit {0}) JoinStop
counted_unless path None = Ok tt
counted_unless path (Some line) = Err (stop.BadCounts path line)

-- the counts of a split, if they are compared
unfoldable pub compare_counts : Files → Option (List ℕ) → List Shard → Comes (Unit {0})
compare_counts files None shards = Some (Ok tt)
compare_counts files (Some dir) shards = option_map (λ bytes. counted_unless (counts_path dir) (line_apart (keys_text shards) bytes)) (file_at files (counts_path dir))

-- the algorithm of the first function
abbrev pub algorithm_or : Option Algorithm → Algorithm
algorithm_or None = algorithm.Chm
algorithm_or (Some a) = a

-- the manifest of the functions that were taken
abbrev pub manifest_of : Taken → Manifest
manifest_of t = record { algorithm = algorithm_or t.algorithm; seed = ROUTE_SEED; shards = t.shards }

-- what a job comes to by the files
unfoldable pub join_of : JoinJob → Files → Comes Manifest
join_of job files = do
  t ← take_all files job.manifest nothing job.functions
  same ← compare_counts files job.dir t.shards
  Some (Ok (manifest_of t))
