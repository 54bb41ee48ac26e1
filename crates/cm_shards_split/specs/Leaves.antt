-- What each step of a split leaves.
use Rattle.std.specs.Prelude.{◌≡◌, ◌⊎◌, ℕ, List, [], Option, None, Some, Result, Ok, Err}
use Rattle.std.specs.Option.{ForSome}
use Rattle.cm_io.specs.Files.{Files, file_at}
use Rattle.cm_io.specs.Passes.{Told}
use Rattle.cm_io.specs.declared.fault.DiskFault.{DiskFault}
use Rattle.cm_io.specs.declared.fault.DiskFault.TheVariants as disk_fault
use Rattle.cm_io.specs.declared.key_pass.KeyFault.{KeyFault}
use Rattle.cm_io.specs.declared.key_pass.KeyFault.TheVariants as key_fault
use Rattle.cm_shards_split.specs.Outcomes.{lines_of, route_of, told_of}
use Rattle.cm_shards_split.specs.Placed.{placed}
use Rattle.cm_shards_split.specs.Shares.{counts_text, share_counts, shares}
use Rattle.cm_shards_split.specs.Splits.{IsUnfinished}
use Rattle.cm_shards_split.specs.Stops.{stop_status}
use Rattle.cm_shards_split.specs.Plans.{Plan, plan}
use Rattle.cm_shards_split.specs.Streaming.{HasEnded, HasPrefixesOf}
use Rattle.cm_shards_split.specs.declared.part.Part.{Part}
use Rattle.cm_shards_split.specs.declared.stop.SplitStop.{SplitStop}
use Rattle.cm_shards_split.specs.declared.stop.SplitStop.TheVariants.{Memory, TooLong, TooMany, Write}
use Rattle.cm_shards_words.specs.declared.jobs.SplitJob.{SplitJob}

-- why a file that can't be created or written stops a split
abbrev pub stop_from_disk : DiskFault → SplitStop
stop_from_disk disk_fault.Memory = Memory
stop_from_disk disk_fault.Failed = Write

-- where a job splits lines to
abbrev pub plan_of : SplitJob → Option Files → Plan
plan_of job base = plan job.dir base (route_of job) job.end

-- What the lines of an open keys file left. If they were not split, the files are as before, or those of shards have prefixes.
abbrev pub LeavesLines : Plan → Option Told → List Part → Option Files → Result (Unit {0}) SplitStop → Type 0
LeavesLines p told parts new (Ok _) = HasEnded p told None parts new
LeavesLines p told parts new (Err (TooLong line)) = HasEnded p told (Some (key_fault.TooLong line)) parts new
LeavesLines p told parts new (Err TooMany) = HasEnded p told (Some key_fault.TooMany) parts new
LeavesLines p told parts new (Err stop) = (new ≡ p.base) ⊎ HasPrefixesOf p told new

-- these are the lines of the keys file, if the files are known
abbrev pub IsToldOf : SplitJob → Option Files → Option Told → Type 0
IsToldOf job base told = ForSome base (λ files. (bytes : List ℕ) × (file_at files job.keys ≡ Some bytes) × (told ≡ Some (told_of job bytes)))

-- the keys file is there, if the files are known
abbrev pub IsKeysThere : SplitJob → Option Files → Type 0
IsKeysThere job base = ForSome base (λ files. (bytes : List ℕ) × (file_at files job.keys ≡ Some bytes))

-- all lines of the keys file are split
abbrev pub HasEndedOf : SplitJob → Option Files → Option KeyFault → List Part → Option Files → Type 0
HasEndedOf job base fault parts new = (told : Option Told) × IsToldOf job base told × HasEnded (plan_of job base) told fault parts new

-- What the lines of the keys file left. A file can be written only if the keys file was open.
abbrev pub LeavesSource : SplitJob → Option Files → List Part → Option Files → Result (Unit {0}) SplitStop → Type 0
LeavesSource job base parts new (Ok _) = HasEndedOf job base None parts new
LeavesSource job base parts new (Err (TooLong line)) = HasEndedOf job base (Some (key_fault.TooLong line)) parts new
LeavesSource job base parts new (Err TooMany) = HasEndedOf job base (Some key_fault.TooMany) parts new
LeavesSource job base parts new (Err Write) = IsKeysThere job base × ((new ≡ base) ⊎ ((told : Option Told) × IsToldOf job base told × HasPrefixesOf (plan_of job base) told new))
LeavesSource job base parts new (Err stop) = (new ≡ base) ⊎ ((told : Option Told) × IsToldOf job base told × HasPrefixesOf (plan_of job base) told new)

-- the lines of the keys file with the fault at their end are split, and this is the text of the counts
abbrev pub IsSplitInto : SplitJob → Files → Option Files → Option KeyFault → (List (List ℕ) → List ℕ) → Type 0
IsSplitInto job files new fault text = (bytes : List ℕ) × (file_at files job.keys ≡ Some bytes) × ((told_of job bytes).fault ≡ fault)
    × (new ≡ Some (placed job.dir (shares (route_of job) job.end (lines_of (told_of job bytes))) (text (lines_of (told_of job bytes))) files))

-- what a job left of known files
abbrev pub LeavesFiles : SplitJob → Files → Option Files → Result (Unit {0}) SplitStop → Type 0
LeavesFiles job files new (Ok _) = IsSplitInto job files new None (λ lines. counts_text (share_counts (route_of job) lines))
LeavesFiles job files new (Err (TooLong line)) = IsSplitInto job files new (Some (key_fault.TooLong line)) (λ lines. [])
LeavesFiles job files new (Err TooMany) = IsSplitInto job files new (Some key_fault.TooMany) (λ lines. [])
LeavesFiles job files new (Err Write) = ((bytes : List ℕ) × (file_at files job.keys ≡ Some bytes)) × ((new ≡ Some files) ⊎ IsUnfinished job files 5 new)
LeavesFiles job files new (Err stop) = (new ≡ Some files) ⊎ IsUnfinished job files (stop_status stop) new

-- what was left of the files when all that waited for those of the shards was to be written
abbrev pub LeavesRest : SplitJob → Files → Option Files → Option KeyFault → Result (Unit {0}) SplitStop → Type 0
LeavesRest job files new fault (Ok _) = IsSplitInto job files new fault (λ lines. [])
LeavesRest job files new fault (Err stop) = LeavesFiles job files new (Err stop)
