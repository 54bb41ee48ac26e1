-- What waits for the files of the shards.
use Rattle.std.specs.Prelude.{◌≡◌, ◌⊎◌, ◌++◌, ◌<◌, ◌≤◌, ◌-◌, ◌^◌, ℕ, List, [], Option, Result, Ok, Err, length, map, replicate, take, slice_index_or}
use Rattle.std.specs.Option.{option_map}
use Rattle.cm_io.specs.Files.{Files}
use Rattle.cm_io.specs.declared.fault.DiskFault.{DiskFault}
use Rattle.cm_io.specs.declared.fault.DiskFault.TheVariants as disk_fault
use Rattle.cm_io_append.specs.Extending.{extended}
use Rattle.cm_route.specs.Routes.{Route}
use Rattle.cm_route.specs.declared.route.TheConstants.{MAX_SHARDS}
use Rattle.cm_shards_split.specs.Names.{shard_path}
use Rattle.cm_shards_split.specs.Placed.{placed}
use Rattle.cm_shards_split.specs.Plans.{Plan, plan}
use Rattle.cm_shards_split.specs.Shares.{share_bytes, share_count, shares}
use Rattle.cm_shards_split.specs.declared.part.Part.{Part}

-- the paths of the files, what waits for each, and how many lines each shard has so far
abbrev pub paths_of : List Part → List (List ℕ)
paths_of parts = map (λ part. part.path) parts

abbrev pub waiting_of : List Part → List (List ℕ)
waiting_of parts = map (λ part. part.waiting) parts

abbrev pub counts_of : List Part → List ℕ
counts_of parts = map (λ part. part.count) parts

-- the files have the paths of the shards in a folder
pub record HavePaths (dir : List ℕ) (parts : List Part) : Type 0 where
  pub few : length parts ≤ MAX_SHARDS
  pub paths : (k : ℕ) → k < length parts → slice_index_or (paths_of parts) k [] ≡ shard_path dir k

-- nothing waits, and no shard has a line
pub record AreNew (dir : List ℕ) (shards : ℕ) (parts : List Part) : Type 0 where
  pub many : length parts ≡ shards
  pub paths : (k : ℕ) → k < length parts → slice_index_or (paths_of parts) k [] ≡ shard_path dir k
  pub none : (k : ℕ) → k < length parts → slice_index_or (waiting_of parts) k [] ≡ []
  pub counts : (k : ℕ) → k < length parts → slice_index_or (counts_of parts) k 0 ≡ 0

-- A call that adds bytes to those that wait for a file appended these first, or not. If it fails, a prefix of these was appended, or
-- nothing if memory runs out.
abbrev pub Puts : Part → Part → Option Files → Option Files → List ℕ → Result (Unit {0}) DiskFault → Type 0
Puts part now old new bytes (Ok _) = ((now.waiting ≡ part.waiting ++ bytes) × (new ≡ old)) ⊎ ((now.waiting ≡ bytes) × (new ≡ extended part.path part.waiting old))
Puts part now old new bytes (Err disk_fault.Failed) = (n : ℕ) × (new ≡ extended part.path (take n part.waiting) old)
Puts part now old new bytes (Err disk_fault.Memory) = new ≡ old

-- the bytes in the files and those that wait for them are the shares of these lines, whose numbers are the counts
pub record AreSplit (route : Route) (end : ℕ) (lines written waiting : List (List ℕ)) (counts : List ℕ) : Type 0 where
  pub many_written : length written ≡ route.shards
  pub many_waiting : length waiting ≡ route.shards
  pub many_counts : length counts ≡ route.shards
  pub bytes : (k : ℕ) → k < route.shards → slice_index_or written k [] ++ slice_index_or waiting k [] ≡ share_bytes route end lines k
  pub counts_are : (k : ℕ) → k < route.shards → slice_index_or counts k 0 ≡ share_count route lines k

-- Files of a folder in which these bytes are written; the file of the counts is empty.
abbrev pub Written : List ℕ → Option Files → List (List ℕ) → Option Files → Type 0
Written dir base written now = now ≡ option_map (placed dir written []) base

-- these lines are split into the files of a folder, and what waits for them
pub record Stands (p : Plan) (lines : List (List ℕ)) (parts : List Part) (files : Option Files) : Type 0 where
  pub written : List (List ℕ)
  pub files_are : Written p.dir p.base written files
  pub paths : HavePaths p.dir parts
  pub split : AreSplit p.route p.end lines written (waiting_of parts) (counts_of parts)

-- the files of the first shards have prefixes of their shares of these lines, and the others aren't made yet
pub record HasPrefixes (p : Plan) (lines : List (List ℕ)) (files : Option Files) : Type 0 where
  pub written : List (List ℕ)
  pub files_are : Written p.dir p.base written files
  pub few : length written ≤ p.route.shards
  pub prefixes : (k : ℕ) → k < length written → (n : ℕ) × (slice_index_or written k [] ≡ take n (share_bytes p.route p.end lines k))

-- how a call ends that splits one line more
abbrev pub PutsLine : Plan → List (List ℕ) → List Part → Option Files → Result (Unit {0}) DiskFault → Type 0
PutsLine p lines parts files (Ok _) = Stands p lines parts files
PutsLine p lines parts files (Err fault) = HasPrefixes p lines files

-- some lines are split into the files of a folder, and there may be one more
pub record IsOpen (route : Route) (end : ℕ) (parts : List Part) (files : Option Files) : Type 0 where
  pub dir : List ℕ
  pub base : Option Files
  pub lines : List (List ℕ)
  pub stands : Stands (plan dir base route end) lines parts files
  pub few : length lines < 2 ^ 64 - 1

-- some lines are split into the files of a folder
pub record AreHeld (parts : List Part) (files : Option Files) : Type 0 where
  pub to : Plan
  pub lines : List (List ℕ)
  pub stands : Stands to lines parts files

-- nothing waits for the first shards
pub record StandsTo (p : Plan) (lines : List (List ℕ)) (n : ℕ) (parts : List Part) (files : Option Files) : Type 0 where
  pub stands : Stands p lines parts files
  pub none : (k : ℕ) → k < n → slice_index_or (waiting_of parts) k [] ≡ []

-- how a call ends after which nothing waits
abbrev pub Flushes : Plan → List (List ℕ) → Option Files → Result (Unit {0}) DiskFault → Type 0
Flushes p lines files (Ok _) = Written p.dir p.base (shares p.route p.end lines) files
Flushes p lines files (Err fault) = HasPrefixes p lines files

-- how a call ends that creates the files of n shards
abbrev pub CreatesParts : List ℕ → Option Files → ℕ → Option Files → Result (Unit {0}) DiskFault → Type 0
CreatesParts dir base n files (Ok _) = Written dir base (replicate n []) files
CreatesParts dir base n files (Err fault) = (m : ℕ) × (m ≤ n) × Written dir base (replicate m []) files

-- and one that creates that of the counts before them
abbrev pub Creates : List ℕ → ℕ → Option Files → Option Files → Result (Unit {0}) DiskFault → Type 0
Creates dir n old new (Ok _) = Written dir old (replicate n []) new
Creates dir n old new (Err fault) = (new ≡ old) ⊎ ((m : ℕ) × (m ≤ n) × Written dir old (replicate m []) new)
