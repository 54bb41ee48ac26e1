-- What a job of the judge does to disk, out and err: what the top call promises.
use Rattle.std.specs.Prelude.{◌≡◌, ◌<◌, ◌⊎◌, ◌↔◌, ℕ, List, [], ◌∷◌, length, take, None, Some, Result, Ok}
use Rattle.std.specs.Option.{ForSome}
use Rattle.cm_io.specs.Files.{Files, file_at}
use Rattle.cm_io.specs.States.{Outside}
use Rattle.cm_io.specs.Writing.{then_bytes}
use Rattle.cm_judge.specs.Leaves.{EndDiffers, ReadsAs, end_message, end_status}
use Rattle.cm_judge.specs.Outcomes.{keys_of, outcome_of, saying, settings_of, verdict_status}
use Rattle.cm_judge.specs.Texts.{program, verdict_text}
use Rattle.cm_judge.specs.declared.stop.JudgeStop.{JudgeStop}
use Rattle.cm_judge_verdict.specs.Truth.{IsTrue}
use Rattle.cm_judge_verdict.specs.declared.verdict.Verdict.{Verdict}
use Rattle.cm_judge_words.specs.declared.job.JudgeJob.{JudgeJob}
use Rattle.cm_tool_stops.specs.Does.{Does, Frame}
use Rattle.cm_tool_stops.specs.Ends.{Says}
use Rattle.cm_tool_stops.specs.Messages.{cannot_read, cannot_write_out}
use Rattle.cm_witness_report.specs.Reading.{reading_of}
use Rattle.cm_witness_report.specs.Reports.{Said}

-- The report and the keys file are there, the one is a report and the other has keys, with no fault at their end; and the status is 0
-- exactly if the report is true for the keys.
pub record IsJudged (job : JudgeJob) (status : ℕ) (files : Files) : Type 0 where
  pub report : List ℕ
  pub said : Said
  pub bytes : List ℕ
  pub report_there : file_at files job.report ≡ Some report
  pub reads : reading_of report ≡ Ok said
  pub keys_there : file_at files job.keys ≡ Some bytes
  pub sound : (keys_of job bytes).fault ≡ None
  pub some : 0 < length (keys_of job bytes).keys
  pub truth : (status ≡ 0) ↔ IsTrue said (keys_of job bytes).keys (settings_of job)

-- a verdict of this status was printed
abbrev pub IsPrinted : Outside → Outside → ℕ → Type 0
IsPrinted old new status = (verdict : Verdict) × (status ≡ verdict_status verdict) × (new.out.written ≡ then_bytes old.out.written (verdict_text verdict))

-- Out got a prefix of the text of a verdict, which is that on the report if the files are known.
pub record IsCutShort (job : JudgeJob) (old new : Outside) : Type 0 where
  pub verdict : Verdict
  pub n : ℕ
  pub out : new.out.written ≡ then_bytes old.out.written (take n (verdict_text verdict))
  pub known : ForSome old.disk.files (λ files. outcome_of job files ≡ Some (saying verdict files))

-- A file could not be read: the report, or the keys file after the report was read. The message names the file.
abbrev pub StoppedReading : JudgeJob → Outside → Outside → Files → Type 0
StoppedReading job old new files = Says old.err new.err (cannot_read program job.report) ⊎ ((said : Said) × ReadsAs files job.report said × Says old.err new.err (cannot_read program job.keys))

-- This is said with this status: nothing of a verdict, and else why there is none or that out can't be written. Keys that changed are said
-- by two numbers that differ.
abbrev pub IsJudgeMessage : JudgeJob → ℕ → List ℕ → Type 0
IsJudgeMessage job status text = ((end : Result Verdict JudgeStop) × (status ≡ end_status end) × (text ≡ end_message job end) × EndDiffers end) ⊎ ((status ≡ 5) × (text ≡ cannot_write_out program))

-- what a failed job may leave: if a file can't be read, it is named, and the report comes first; if out fails, it got a prefix of the text
pub record MayLeave (job : JudgeJob) (old new : Outside) (status : ℕ) : Type 0 where
  pub read : status ≡ 4 → ForSome old.disk.files (StoppedReading job old new)
  pub write : status ≡ 5 → IsCutShort job old new

-- how a job may end: err gets nothing of a verdict, and else the message
abbrev pub MayEnd : JudgeJob → Outside → Outside → ℕ → Type 0
MayEnd job old new status = (text : List ℕ) × IsJudgeMessage job status text × Says old.err new.err text

-- The frame of a job: a judge changes no file, and prints the text of a verdict alone.
abbrev pub frame_of : JudgeJob → Frame
frame_of job = record {
  statuses = 0 ∷ 1 ∷ 3 ∷ 4 ∷ 5 ∷ 6 ∷ 7 ∷ 8 ∷ [];
  outcome = outcome_of job;
  saves = [];
  prints = 0 ∷ 1 ∷ 5 ∷ [];
  writes = ⊥;
  spills = ⊥;
  leaves = MayLeave job;
  ends = MayEnd job;
}

-- A job that found disk, out and err in the old state left them in the new one, with this status.
pub record Judges (job : JudgeJob) (old new : Outside) (result : ℕ) : Type 0 where
  pub does : Does (frame_of job) old new result
  -- The status is 0 if the report is true, and 1 if it is false.
  pub truth : (result ≡ 0) ⊎ (result ≡ 1) → ForSome old.disk.files (IsJudged job result)
  -- Out gets the text of the verdict, whatever the files are.
  pub printed : (result ≡ 0) ⊎ (result ≡ 1) → IsPrinted old new result
