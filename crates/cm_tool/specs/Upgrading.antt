-- What an upgrade of a function file does.
use Rattle.std.specs.Prelude.{◌≡◌, ◌⊎◌, ℕ, List, [], ◌∷◌, Option, Some, Result, Ok, Err}
use Rattle.std.specs.Option.{ForSome, option_map}
use Rattle.cm_dump.specs.Dumps.{dump_of}
use Rattle.cm_dump.specs.Forms.{version_of}
use Rattle.cm_dump.specs.Spelling.{spelling_of}
use Rattle.cm_dump.specs.declared.versions.Version.{Version}
use Rattle.cm_dump.specs.declared.versions.Version.TheVariants.{One}
use Rattle.cm_dump_items.specs.declared.fault.LoadFault.{LoadFault}
use Rattle.cm_func.specs.declared.function.Func.{Func}
use Rattle.cm_io.specs.Files.{Files, file_at, with_file}
use Rattle.cm_io.specs.States.{Outside}
use Rattle.cm_tool.specs.Said.{cmph, naming}
use Rattle.cm_tool_building.specs.Stores.{IsPart}
use Rattle.cm_tool_files.specs.Upgrades.{upgraded}
use Rattle.cm_tool_stops.specs.Does.{Does, Frame}
use Rattle.cm_tool_stops.specs.Ending.{Outcome, printing, refusal}
use Rattle.cm_tool_stops.specs.Ends.{Says, upgrade_message_of, upgrade_status_of}
use Rattle.cm_tool_stops.specs.Messages.{bad_dump, cannot_write}
use Rattle.cm_tool_stops.specs.declared.stop.UpgradeStop.{UpgradeStop}
use Rattle.cm_words.specs.declared.jobs.UpgradeJob.{UpgradeJob}

-- an upgrade of a function of a version
abbrev pub upgrading : UpgradeJob → Files → Version → Func → Outcome
upgrading job files version f = printing [] (upgraded files job.function version f)

-- of what a function file of a version spells
abbrev pub upgrade_over : UpgradeJob → Files → Version → Result Func LoadFault → Outcome
upgrade_over job files version (Err fault) = refusal 3 (bad_dump cmph job.function fault) files
upgrade_over job files version (Ok f) = upgrading job files version f

-- over the bytes of the function file
abbrev pub upgrade_outcome : UpgradeJob → Files → List ℕ → Outcome
upgrade_outcome job files bytes = upgrade_over job files (version_of bytes) (spelling_of bytes)

-- and over files, if the function file is there
abbrev pub outcome_of : UpgradeJob → Files → Option Outcome
outcome_of job files = option_map (upgrade_outcome job files) (file_at files job.function)

-- What an upgrade that could not write leaves: its outcome rewrites the function file, which is as before or holds a prefix of the
-- function's dump. The message names the file.
pub record IsHalfUpgraded (job : UpgradeJob) (old new : Outside) (files : Files) : Type 0 where
  pub f : Func
  pub is : outcome_of job files ≡ Some (upgrading job files One f)
  pub part : IsPart job.function (dump_of f) old.disk.files new.disk.files
  pub says : Says old.err new.err (cannot_write cmph job.function)

-- its outcome rewrites the function file, which is empty
abbrev pub IsEmptied : UpgradeJob → Option Files → Option Files → Type 0
IsEmptied job old new = (new ≡ with_file job.function [] old) × ForSome old (λ files. (f : Func) × (outcome_of job files ≡ Some (upgrading job files One f)))

-- what a failed upgrade may leave
pub record MayLeave (job : UpgradeJob) (old new : Outside) (status : ℕ) : Type 0 where
  pub write : status ≡ 5 → ForSome old.disk.files (IsHalfUpgraded job old new)
  pub memory : status ≡ 6 → (new.disk.files ≡ old.disk.files) ⊎ IsEmptied job old.disk.files new.disk.files

-- the status of an end, and what is said of it
abbrev pub end_status : Result (Unit {0}) UpgradeStop → ℕ
end_status (Ok _) = 0
end_status (Err stop) = upgrade_status_of stop

abbrev pub end_message : UpgradeJob → Result (Unit {0}) UpgradeStop → List ℕ
end_message job (Ok _) = []
end_message job (Err stop) = upgrade_message_of (naming [] job.function) stop

-- how an upgrade may end
abbrev pub MayEnd : UpgradeJob → Outside → Outside → ℕ → Type 0
MayEnd job old new status = (end : Result (Unit {0}) UpgradeStop) × (status ≡ end_status end) × Says old.err new.err (end_message job end)

-- Its frame: it saves the function in the version that is written today, and prints nothing.
abbrev pub upgrade_frame : UpgradeJob → Frame
upgrade_frame job = record {
  statuses = 0 ∷ 3 ∷ 4 ∷ 5 ∷ 6 ∷ [];
  outcome = outcome_of job;
  saves = 0 ∷ 5 ∷ 6 ∷ [];
  prints = [];
  writes = Unit {0};
  spills = ⊥;
  leaves = MayLeave job;
  ends = MayEnd job;
}

abbrev pub Upgrades : UpgradeJob → Outside → Outside → ℕ → Type 0
Upgrades job = Does (upgrade_frame job)
