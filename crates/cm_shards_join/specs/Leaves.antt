-- What each end of a join, and of its steps, leaves.
use Rattle.std.specs.Prelude.{◌≡◌, ◌≤◌, ◌⊎◌, ℕ, List, [], ◌∷◌, ◌++◌, Option, Some, Result, Ok, Err}
use Rattle.std.specs.Option.{ForSome}
use Rattle.cm_io.specs.Causes.{Rose}
use Rattle.cm_io.specs.Files.{Files, with_file}
use Rattle.cm_shards_join.specs.Taking.{Comes, Taken, join_of, nothing, take_all}
use Rattle.cm_shards_join.specs.declared.stop.JoinStop.{JoinStop}
use Rattle.cm_shards_join.specs.declared.stop.JoinStop.TheVariants.{Another, BadCounts, BadDump, BadName, Memory, Read, Write}
use Rattle.cm_shards_manifest.specs.ManifestBytes.{manifest_bytes}
use Rattle.cm_shards_manifest.specs.Manifests.{IsManifest, Manifest}
use Rattle.cm_shards_manifest.specs.Paths.{name_of, path_of}
use Rattle.cm_shards_split.specs.Names.{counts_path}
use Rattle.cm_shards_words.specs.declared.jobs.JoinJob.{JoinJob}
use Rattle.cm_tool_building.specs.Stores.{IsPart}

-- The function files and the counts come to this manifest.
pub record IsJoined (job : JoinJob) (files : Files) (m : Manifest) : Type 0 where
  pub joined : join_of job files ≡ Some (Ok m)
  pub valid : IsManifest m

-- The manifest is saved, and nothing else is changed.
pub record IsSaved (job : JoinJob) (old new : Option Files) (files : Files) : Type 0 where
  pub m : Manifest
  pub joined : IsJoined job files m
  pub saved : new ≡ with_file job.manifest (manifest_bytes m) old

-- The manifest could not be written: the files are as before, or it has a prefix of its bytes.
pub record IsCutShort (job : JoinJob) (old new : Option Files) (files : Files) : Type 0 where
  pub m : Manifest
  pub joined : IsJoined job files m
  pub part : IsPart job.manifest (manifest_bytes m) old new

-- A function file could not be read, after the functions before it were taken.
pub record IsUnreadFunction (job : JoinJob) (files : Files) (path : List ℕ) : Type 0 where
  pub before : List (List ℕ)
  pub function : List ℕ
  pub after : List (List ℕ)
  pub taken : Taken
  pub are : job.functions ≡ before ++ function ∷ after
  pub takes : take_all files job.manifest nothing before ≡ Some (Ok taken)
  pub is : path ≡ path_of job.manifest (name_of job.manifest function)

-- The counts could not be read, after all functions were taken.
pub record IsUnreadCounts (job : JoinJob) (files : Files) (path : List ℕ) : Type 0 where
  pub dir : List ℕ
  pub taken : Taken
  pub given : job.dir ≡ Some dir
  pub takes : take_all files job.manifest nothing job.functions ≡ Some (Ok taken)
  pub is : path ≡ counts_path dir

abbrev pub IsUnread : JoinJob → Files → List ℕ → Type 0
IsUnread job files path = IsUnreadFunction job files path ⊎ IsUnreadCounts job files path

-- why a step stopped, by what it comes to: memory may run out, and a file may fail to be read, at any time, and nothing is written
abbrev pub Refuses : {A : Type 0} → Comes A → JoinStop → Type 0
Refuses comes Memory = Unit {0}
Refuses comes (Read path) = Unit {0}
Refuses comes Write = ⊥
Refuses comes (BadName path) = comes ≡ Some (Err (BadName path))
Refuses comes (BadDump path fault) = comes ≡ Some (Err (BadDump path fault))
Refuses comes (Another path) = comes ≡ Some (Err (Another path))
Refuses comes (BadCounts path line) = comes ≡ Some (Err (BadCounts path line))

-- a step that could not read names this path
abbrev pub NamesPath : List ℕ → JoinStop → Type 0
NamesPath path (Read named) = named ≡ path
NamesPath path stop = Unit {0}

-- a step that could not read the counts names their path, and one that could not read a function file the path of that
abbrev pub NamesCounts : Option (List ℕ) → JoinStop → Type 0
NamesCounts dir (Read named) = (d : List ℕ) × (dir ≡ Some d) × (named ≡ counts_path d)
NamesCounts dir stop = Unit {0}

abbrev pub NamesFunction : JoinJob → Files → JoinStop → Type 0
NamesFunction job files (Read named) = IsUnreadFunction job files named
NamesFunction job files stop = Unit {0}

-- a step that wrote nothing could not read exactly if the count of reading rose
abbrev pub IsReadCause : ℕ → ℕ → JoinStop → Type 0
IsReadCause r r' (Read path) = (r ≤ r') × Rose r r'
IsReadCause r r' Write = ⊥
IsReadCause r r' stop = r' ≡ r

abbrev pub HasReadCause : {T : Type 0} → ℕ → ℕ → Result T JoinStop → Type 0
HasReadCause r r' (Ok x) = r' ≡ r
HasReadCause r r' (Err stop) = IsReadCause r r' stop

-- what functions and counts came to, or why there is no manifest
abbrev pub EndsStop : JoinJob → Files → JoinStop → Type 0
EndsStop job files (Read path) = IsUnread job files path
EndsStop job files stop = Refuses (join_of job files) stop

abbrev pub EndsJoin : JoinJob → Files → Result Manifest JoinStop → Type 0
EndsJoin job files (Ok m) = IsJoined job files m
EndsJoin job files (Err stop) = EndsStop job files stop

-- which counts a join that stopped has raised: that of reading, and that of writing
abbrev pub IsStopCause : ℕ → ℕ → ℕ → ℕ → JoinStop → Type 0
IsStopCause r r' w w' (Read path) = (r ≤ r') × Rose r r' × (w' ≡ w)
IsStopCause r r' w w' Write = (r' ≡ r) × (w ≤ w') × Rose w w'
IsStopCause r r' w w' stop = (r' ≡ r) × (w' ≡ w)

abbrev pub HasStopCause : {T : Type 0} → ℕ → ℕ → ℕ → ℕ → Result T JoinStop → Type 0
HasStopCause r r' w w' (Ok x) = (r' ≡ r) × (w' ≡ w)
HasStopCause r r' w w' (Err stop) = IsStopCause r r' w w' stop

-- memory ran out after the manifest was created
abbrev pub IsEmptied : JoinJob → Option Files → Option Files → Type 0
IsEmptied job old new = (new ≡ with_file job.manifest [] old) × ForSome old (λ files. (m : Manifest) × IsJoined job files m)

-- what a join that stopped leaves
abbrev pub LeavesStop : JoinJob → Option Files → Option Files → JoinStop → Type 0
LeavesStop job old new Memory = (new ≡ old) ⊎ IsEmptied job old new
LeavesStop job old new Write = ForSome old (IsCutShort job old new)
LeavesStop job old new stop = (new ≡ old) × ForSome old (λ files. EndsStop job files stop)

abbrev pub Leaves : JoinJob → Option Files → Option Files → Result (Unit {0}) JoinStop → Type 0
Leaves job old new (Ok done) = ForSome old (IsSaved job old new)
Leaves job old new (Err stop) = LeavesStop job old new stop
