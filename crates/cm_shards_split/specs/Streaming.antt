-- Lines that are read one after another, each put into its shard.
use Rattle.std.specs.Prelude.{◌≡◌, ◌≤◌, ◌++◌, ℕ, List, drop, length, map, Bool, true, false, Option, None, Some, Result, Ok, Err}
use Rattle.std.specs.Option.{ForSome}
use Rattle.cm_io.specs.Causes.{Rose}
use Rattle.cm_io.specs.Files.{Files}
use Rattle.cm_io.specs.Passes.{Told}
use Rattle.cm_io.specs.declared.fault.DiskFault.{DiskFault}
use Rattle.cm_io.specs.declared.key_pass.KeyFault.{KeyFault}
use Rattle.cm_io.specs.declared.key_pass.KeyFault.TheVariants as key_fault
use Rattle.cm_keys.specs.Streams.{LineStream, told_by}
use Rattle.cm_route.specs.Routes.{Route}
use Rattle.cm_shards_split.specs.Outcomes.{lines_of}
use Rattle.cm_shards_split.specs.Parts.{HasPrefixes, Stands}
use Rattle.cm_shards_split.specs.Plans.{Plan, plan}
use Rattle.cm_shards_split.specs.declared.part.Part.{Part}
use Rattle.cm_shards_split.specs.declared.stop.SplitStop.{SplitStop}
use Rattle.cm_shards_split.specs.declared.stop.SplitStop.TheVariants.{Memory, Read, TooLong, TooMany, Write}

-- the lines that were read are split, and the others are left
pub record IsStreaming (p : Plan) (stream : LineStream) (parts : List Part) (files : Option Files) : Type 0 where
  pub lines : List (List ℕ)
  pub stands : Stands p lines parts files
  pub long : length lines ≡ stream.count
  pub left : ForSome (told_by stream) (λ told. lines_of told ≡ lines ++ map (λ line. line.1) (drop stream.count told.keys))

-- some lines are split in some folder, and the others are left
pub record IsSplitting (route : Route) (end : ℕ) (stream : LineStream) (parts : List Part) (files : Option Files) : Type 0 where
  pub dir : List ℕ
  pub base : Option Files
  pub streaming : IsStreaming (plan dir base route end) stream parts files

-- All lines are split, and this is the fault at their end.
pub record HasEnded (p : Plan) (told : Option Told) (fault : Option KeyFault) (parts : List Part) (files : Option Files) : Type 0 where
  pub lines : List (List ℕ)
  pub stands : Stands p lines parts files
  pub all : ForSome told (λ t. (lines_of t ≡ lines) × (t.fault ≡ fault))

-- the files of shards have prefixes of the shares of all lines
abbrev pub HasPrefixesOf : Plan → Option Told → Option Files → Type 0
HasPrefixesOf p told files = ForSome told (λ t. HasPrefixes p (lines_of t) files)

-- what is left by why lines are split no further
abbrev pub StopsTo : Plan → Option Told → List Part → Option Files → SplitStop → Type 0
StopsTo p told parts files Memory = HasPrefixesOf p told files
StopsTo p told parts files Read = HasPrefixesOf p told files
StopsTo p told parts files Write = HasPrefixesOf p told files
StopsTo p told parts files (TooLong line) = HasEnded p told (Some (key_fault.TooLong line)) parts files
StopsTo p told parts files TooMany = HasEnded p told (Some key_fault.TooMany) parts files

-- what one line more comes to: more are left, or all are split
abbrev pub StepsTo : Plan → LineStream → List Part → Option Files → Result Bool SplitStop → Type 0
StepsTo p stream parts files (Ok true) = IsStreaming p stream parts files
StepsTo p stream parts files (Ok false) = HasEnded p (told_by stream) None parts files
StepsTo p stream parts files (Err stop) = StopsTo p (told_by stream) parts files stop

-- the same of a line that is put only if it is buffered: if it isn't, nothing more is known
abbrev pub StepsBuffered : Plan → LineStream → List Part → Option Files → Result Bool DiskFault → Type 0
StepsBuffered p stream parts files (Ok _) = IsStreaming p stream parts files
StepsBuffered p stream parts files (Err fault) = HasPrefixesOf p (told_by stream) files

-- and all lines
abbrev pub EndsTo : Plan → Option Told → List Part → Option Files → Result (Unit {0}) SplitStop → Type 0
EndsTo p told parts files (Ok _) = HasEnded p told None parts files
EndsTo p told parts files (Err stop) = StopsTo p told parts files stop

-- which counts a split that stopped has raised: that of reading, and that of writing
abbrev pub IsSplitCause : ℕ → ℕ → ℕ → ℕ → SplitStop → Type 0
IsSplitCause r r' w w' Read = (r ≤ r') × Rose r r' × (w' ≡ w)
IsSplitCause r r' w w' Write = (r' ≡ r) × (w ≤ w') × Rose w w'
IsSplitCause r r' w w' stop = (r' ≡ r) × (w' ≡ w)

-- and one that came to its end has raised none
abbrev pub HasSplitCause : {T : Type 0} → ℕ → ℕ → ℕ → ℕ → Result T SplitStop → Type 0
HasSplitCause r r' w w' (Ok _) = (r' ≡ r) × (w' ≡ w)
HasSplitCause r r' w w' (Err stop) = IsSplitCause r r' w w' stop
