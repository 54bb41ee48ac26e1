-- What a join does to disk and err: what the top call promises.
use Rattle.std.specs.Prelude.{◌≡◌, ◌⊎◌, ℕ, List, [], ◌∷◌, Result}
use Rattle.std.specs.Option.{ForSome}
use Rattle.cm_io.specs.Files.{Files, with_file}
use Rattle.cm_io.specs.States.{Outside}
use Rattle.cm_shards_join.specs.Leaves.{IsCutShort, IsSaved, IsUnread}
use Rattle.cm_shards_join.specs.Outcomes.{outcome_of}
use Rattle.cm_shards_join.specs.Texts.{end_message, end_status}
use Rattle.cm_shards_join.specs.declared.stop.JoinStop.{JoinStop}
use Rattle.cm_shards_join.specs.Inputs.{ReplacesInput}
use Rattle.cm_shards_words.specs.Overwriting.{RefusesOverwriting}
use Rattle.cm_shards_words.specs.Program.{program}
use Rattle.cm_shards_words.specs.declared.jobs.JoinJob.{JoinJob}
use Rattle.cm_tool_stops.specs.Does.{Does, Frame}
use Rattle.cm_tool_stops.specs.Ends.{Says}
use Rattle.cm_tool_stops.specs.Messages.{cannot_read}

-- A file could not be read, which is named.
abbrev pub StoppedReading : JoinJob → Outside → Outside → Files → Type 0
StoppedReading job old new files = (path : List ℕ) × IsUnread job files path × Says old.err new.err (cannot_read program path)

-- The end of a join: its status, and what is said of it.
pub record IsEnd (job : JoinJob) (old new : Outside) (status : ℕ) (end : Result (Unit {0}) JoinStop) : Type 0 where
  pub status_is : status ≡ end_status end
  pub says : Says old.err new.err (end_message job end)

-- what a failed join may leave: a file that can't be read is named; the manifest may have a prefix of its bytes, or be empty
pub record MayLeave (job : JoinJob) (old new : Outside) (status : ℕ) : Type 0 where
  pub read : status ≡ 4 → ForSome old.disk.files (StoppedReading job old new)
  pub write : status ≡ 5 → ForSome old.disk.files (IsCutShort job old.disk.files new.disk.files)
  pub memory : status ≡ 6 → (new.disk.files ≡ old.disk.files) ⊎ (new.disk.files ≡ with_file job.manifest [] old.disk.files)

-- how a join may end: err gets nothing if the manifest is saved, and else the message
abbrev pub MayEnd : JoinJob → Outside → Outside → ℕ → Type 0
MayEnd job old new status = (end : Result (Unit {0}) JoinStop) × IsEnd job old new status end

-- The frame of a join whose manifest is none of the files that it reads: it saves the manifest, and prints nothing.
abbrev pub frame_of : JoinJob → Frame
frame_of job = record {
  statuses = 0 ∷ 3 ∷ 4 ∷ 5 ∷ 6 ∷ [];
  outcome = outcome_of job;
  saves = 0 ∷ 5 ∷ 6 ∷ [];
  prints = [];
  writes = Unit {0};
  spills = ⊥;
  leaves = MayLeave job;
  ends = MayEnd job;
}

-- It found disk and err in the old state and left them in the new one, with this status; and more is known of what it saved.
pub record JoinsFunctions (job : JoinJob) (old new : Outside) (result : ℕ) : Type 0 where
  pub does : Does (frame_of job) old new result
  pub saved : result ≡ 0 → ForSome old.disk.files (IsSaved job old.disk.files new.disk.files)

-- A join that found disk and err in the old state left them in the new one, with this status. It is refused exactly if its manifest would
-- take the place of a file that it reads.
pub record Joins (job : JoinJob) (old new : Outside) (result : ℕ) : Type 0 where
  pub refused : ReplacesInput job → RefusesOverwriting job.manifest old new result
  pub functions : (ReplacesInput job → ⊥) → JoinsFunctions job old new result
