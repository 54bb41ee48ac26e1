-- What a query or a test does to disk, out and err.
use Rattle.std.specs.Prelude.{◌≡◌, ◌⊎◌, ◌↔◌, ℕ, List, [], ◌∷◌, ◌++◌, None, Some, Result, Ok, Err, Bool, true}
use Rattle.std.specs.Option.{ForSome}
use Rattle.cm_io.specs.Files.{Files, file_at}
use Rattle.cm_io.specs.States.{Outside}
use Rattle.cm_shards_query.specs.Leaves.{IsPartBefore, IsPartWritten, lines_there, stop_message, stop_status}
use Rattle.cm_shards_files.specs.Loading.{LoadsShards, shards_of}
use Rattle.cm_shards_files.specs.Shards.{Sharded, key_total, number_in}
use Rattle.cm_shards_files.specs.declared.fault.ShardsFault.{ShardsFault}
use Rattle.cm_shards_query.specs.Texts.{load_message, load_status}
use Rattle.cm_shards_query.specs.Outcomes.{lines_of, outcome_of}
use Rattle.cm_shards_query.specs.Verdicts.{IsNumbering}
use Rattle.cm_shards_query.specs.Written.{numbers_of}
use Rattle.cm_shards_query.specs.declared.stop.AskStop.{AskStop}
use Rattle.cm_shards_words.specs.Program.{program}
use Rattle.cm_shards_words.specs.declared.jobs.AskJob.{AskJob}
use Rattle.cm_tool_asking.specs.Asking.{status_by}
use Rattle.cm_tool_asking.specs.Leaves.{GotNothing, Wrote, wrote}
use Rattle.cm_tool_stops.specs.Does.{Does, Frame}
use Rattle.cm_tool_stops.specs.Ends.{Says}
use Rattle.cm_tool_stops.specs.Messages.{cannot_read, cannot_write_out, out_of_memory}

-- The manifest and its functions are there and sound, and the keys file has these bytes.
pub record AreAsked (job : AskJob) (files : Files) (s : Sharded) (bytes : List ℕ) : Type 0 where
  pub loaded : shards_of files job.manifest ≡ Some (Ok s)
  pub there : file_at files job.keys ≡ Some bytes

-- Status 0 of a test says that the lines have no fault at their end, and that each has a number, all numbers differ, and there are as many
-- lines as keys; status 1 says that this is not so.
pub record IsTested (job : AskJob) (status : ℕ) (files : Files) : Type 0 where
  pub shards : Sharded
  pub bytes : List ℕ
  pub asked : AreAsked job files shards bytes
  pub truth : (status ≡ 0) ↔ (((lines_of job bytes).fault ≡ None) × IsNumbering (number_in shards) (key_total shards) (lines_of job bytes).keys)

-- A file could not be read. It is the manifest or a function, and neither out nor err got anything of an answer; or it is the keys file,
-- after the first lines of a query were answered. The message names the file.
abbrev pub StoppedReading : AskJob → Files → Wrote → List ℕ → Type 0
StoppedReading job files w text = (GotNothing w × ((fault : ShardsFault) × (load_status fault ≡ 4) × LoadsShards files job.manifest (Err fault) × (text ≡ load_message job.manifest fault)))
    ⊎ ((s : Sharded) × (shards_of files job.manifest ≡ Some (Ok s)) × IsPartBefore job.test job.end (numbers_of s) (lines_there job (file_at files job.keys)) w × (text ≡ cannot_read program job.keys))

-- Out could not be written, after the first lines of a query were answered, or with a prefix of the verdict of a test.
abbrev pub StoppedWriting : AskJob → Files → Wrote → List ℕ → Type 0
StoppedWriting job files w text = (s : Sharded) × (bytes : List ℕ) × AreAsked job files s bytes × IsPartWritten job.test job.end (numbers_of s) (lines_of job bytes) w × (text ≡ cannot_write_out program)

-- a job that a fault cut short, or for which memory ran out: err got the notes of the lines that were answered, and the message
pub record IsCutShort (job : AskJob) (old new : Outside) (files : Files) (status : ℕ) : Type 0 where
  pub notes : List ℕ
  pub text : List ℕ
  pub says : Says old.err new.err (notes ++ text)
  pub read : status ≡ 4 → StoppedReading job files (wrote old.out.written new.out.written notes) text
  pub write : status ≡ 5 → StoppedWriting job files (wrote old.out.written new.out.written notes) text
  pub memory : status ≡ 6 → GotNothing (wrote old.out.written new.out.written notes) × (text ≡ out_of_memory program)

-- the status of an end, and what is said of it after the notes
abbrev pub end_status : Result Bool AskStop → ℕ
end_status (Ok complete) = status_by complete
end_status (Err stop) = stop_status stop

abbrev pub end_message : AskJob → Result Bool AskStop → List ℕ
end_message job (Ok complete) = []
end_message job (Err stop) = stop_message job stop

-- The job came to its end, or stopped: its status, what was noted, and what was said then.
pub record IsEnd (job : AskJob) (old new : Outside) (status : ℕ) (end : Result Bool AskStop) : Type 0 where
  pub notes : List ℕ
  pub status_is : status ≡ end_status end
  pub says : Says old.err new.err (notes ++ end_message job end)

-- what a job that a fault cut short may leave: out has the text of the first lines of a query, and err their notes; or out has a prefix of
-- the verdict of a test
abbrev pub MayLeave : AskJob → Outside → Outside → ℕ → Type 0
MayLeave job old new status = ForSome old.disk.files (λ files. IsCutShort job old new files status)

abbrev pub MayEnd : AskJob → Outside → Outside → ℕ → Type 0
MayEnd job old new status = (end : Result Bool AskStop) × IsEnd job old new status end

-- The frame of a query or a test: it changes no file. Memory runs out before the first line, or never.
abbrev pub frame_of : AskJob → Frame
frame_of job = record {
  statuses = 0 ∷ 1 ∷ 3 ∷ 4 ∷ 5 ∷ 6 ∷ 8 ∷ [];
  outcome = outcome_of job;
  saves = [];
  prints = 0 ∷ 1 ∷ 3 ∷ 4 ∷ 5 ∷ 8 ∷ [];
  writes = ⊥;
  spills = ⊥;
  leaves = MayLeave job;
  ends = MayEnd job;
}

-- A query or a test that found disk, out and err in the old state left them in the new one, with this status.
pub record AsksShards (job : AskJob) (old new : Outside) (result : ℕ) : Type 0 where
  pub does : Does (frame_of job) old new result
  -- The status of a test is 0 if all lines have numbers that differ, and there are as many as keys, and 1 if that is not so.
  pub truth : job.test ≡ true → (result ≡ 0) ⊎ (result ≡ 1) → ForSome old.disk.files (IsTested job result)
