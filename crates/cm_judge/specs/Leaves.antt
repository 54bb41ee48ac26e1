-- How the steps of a job end.
use Rattle.std.specs.Prelude.{◌≡◌, ◌<◌, ◌↔◌, ℕ, List, [], length, None, Some, Result, Ok, Err}
use Rattle.cm_io.specs.Files.{Files, file_at}
use Rattle.cm_io.specs.declared.key_pass.KeyFault.TheVariants as key_fault
use Rattle.cm_judge.specs.Outcomes.{keys_of, settings_of, verdict_status}
use Rattle.cm_judge.specs.Texts.{bad_report, program}
use Rattle.cm_judge.specs.declared.stop.BadReport.{BadReport}
use Rattle.cm_judge.specs.declared.stop.JudgeStop.{JudgeStop}
use Rattle.cm_judge.specs.declared.stop.JudgeStop.TheVariants.{Keys, Report}
use Rattle.cm_judge_reports.specs.Faults.{FailsJudge, HasJudgeCause, NumbersDiffer}
use Rattle.cm_judge_reports.specs.declared.fault.JudgeFault.{JudgeFault}
use Rattle.cm_judge_reports.specs.declared.fault.JudgeFault.TheVariants as judge_fault
use Rattle.cm_judge_verdict.specs.Truth.{IsTrue}
use Rattle.cm_judge_verdict.specs.Verdicts.{verdict_of}
use Rattle.cm_judge_verdict.specs.declared.verdict.Verdict.{Verdict}
use Rattle.cm_judge_verdict.specs.declared.verdict.Verdict.TheVariants.{Holds}
use Rattle.cm_judge_words.specs.declared.job.JudgeJob.{JudgeJob}
use Rattle.cm_tool_stops.specs.Ends.{message_of, query_message_of, query_status_of, status_of}
use Rattle.cm_tool_stops.specs.Named.{Named}
use Rattle.cm_tool_stops.specs.declared.stop.QueryStop.{QueryStop}
use Rattle.cm_tool_stops.specs.declared.stop.QueryStop.TheVariants as query_stop
use Rattle.cm_tool_stops.specs.declared.stop.Stop.{Stop}
use Rattle.cm_tool_stops.specs.declared.stop.Stop.TheVariants as stop
use Rattle.cm_witness_report.specs.Reading.{HasReportCause, reading_of, said_of}
use Rattle.cm_witness_report.specs.Reports.{Said}
use Rattle.cm_witness_report.specs.declared.report.Report as report
use Rattle.cm_witness_report.specs.declared.report.ReportFault.{ReportFault}
use Rattle.cm_witness_report.specs.declared.report.ReportFault.TheVariants as report_fault

-- why a report that could not be read stops a job
abbrev pub stop_from_report : ReportFault → QueryStop BadReport
stop_from_report report_fault.Memory = query_stop.Memory
stop_from_report report_fault.Read = query_stop.NoFunction
stop_from_report (report_fault.Bad line) = query_stop.BadFile (record { line = line })

-- why keys by which nothing was judged stop a job
abbrev pub stop_from_judge : JudgeFault → Stop
stop_from_judge judge_fault.Memory = stop.Memory
stop_from_judge judge_fault.NoKeys = stop.NoKeys
stop_from_judge (judge_fault.Key key_fault.Read) = stop.Read
stop_from_judge (judge_fault.Key (key_fault.TooLong line)) = stop.TooLong line
stop_from_judge (judge_fault.Key key_fault.TooMany) = stop.TooMany
stop_from_judge (judge_fault.Changed first again) = stop.Changed first again

-- the status of a job without a verdict
abbrev pub stop_status : JudgeStop → ℕ
stop_status (Report fault) = query_status_of (stop_from_report fault)
stop_status (Keys fault) = status_of (stop_from_judge fault)

-- what messages name: the program, and the paths of the keys file and of the report
abbrev pub naming : JudgeJob → Named
naming job = record { program = program; keys = job.keys; function = job.report }

-- what is said of a job without a verdict
abbrev pub stop_message : JudgeJob → JudgeStop → List ℕ
stop_message job (Report fault) = query_message_of (λ bad names. bad_report names.program names.function bad.line) (naming job) (stop_from_report fault)
stop_message job (Keys fault) = message_of (naming job) [] (stop_from_judge fault)

-- the status of an end, and what is said of it
abbrev pub end_status : Result Verdict JudgeStop → ℕ
end_status (Ok verdict) = verdict_status verdict
end_status (Err stop) = stop_status stop

abbrev pub end_message : JudgeJob → Result Verdict JudgeStop → List ℕ
end_message job (Ok verdict) = []
end_message job (Err stop) = stop_message job stop

-- the two numbers of keys that changed differ
abbrev pub EndDiffers : Result Verdict JudgeStop → Type 0
EndDiffers (Ok verdict) = Unit {0}
EndDiffers (Err (Report fault)) = Unit {0}
EndDiffers (Err (Keys fault)) = NumbersDiffer fault

-- a file can't be opened or read exactly if the count of reading rose
abbrev pub HasStopCause : ℕ → ℕ → Result Verdict JudgeStop → Type 0
HasStopCause before now (Ok verdict) = now ≡ before
HasStopCause before now (Err (Report fault)) = HasReportCause {T = Unit {0}} before now (Err fault)
HasStopCause before now (Err (Keys fault)) = HasJudgeCause {T = Unit {0}} before now (Err fault)

-- the bytes of the file are those of a report that says this
abbrev pub ReadsAs : Files → List ℕ → Said → Type 0
ReadsAs files path said = (bytes : List ℕ) × (file_at files path ≡ Some bytes) × (reading_of bytes ≡ Ok said)

-- they are those of no report, and this is the first line at which they are none
abbrev pub IsBad : Files → List ℕ → ℕ → Type 0
IsBad files path line = (bytes : List ℕ) × (file_at files path ≡ Some bytes) × (reading_of bytes ≡ Err line)

-- why no report was read from a file
abbrev pub FailsReport : Files → List ℕ → ReportFault → Type 0
FailsReport files path report_fault.Memory = Unit {0}
FailsReport files path report_fault.Read = Unit {0}
FailsReport files path (report_fault.Bad line) = IsBad files path line

-- the report of a file, or why there is none
abbrev pub LoadsReport : Files → List ℕ → Result report.Report ReportFault → Type 0
LoadsReport files path (Ok loaded) = ReadsAs files path (said_of loaded)
LoadsReport files path (Err fault) = FailsReport files path fault

-- This is the verdict by the keys of the keys file, of which there are some, with no fault at their end; and it is that the report holds
-- exactly if it is true.
pub record IsVerdict (job : JudgeJob) (said : Said) (files : Files) (verdict : Verdict) : Type 0 where
  pub bytes : List ℕ
  pub there : file_at files job.keys ≡ Some bytes
  pub sound : (keys_of job bytes).fault ≡ None
  pub some : 0 < length (keys_of job bytes).keys
  pub is : verdict ≡ verdict_of said (keys_of job bytes).keys (settings_of job)
  pub truth : (verdict ≡ Holds) ↔ IsTrue said (keys_of job bytes).keys (settings_of job)

-- why there is no verdict by the keys of the keys file
abbrev pub FailsKeys : JudgeJob → Files → JudgeFault → Type 0
FailsKeys job files judge_fault.Memory = Unit {0}
FailsKeys job files (judge_fault.Key key_fault.Read) = Unit {0}
FailsKeys job files fault = (bytes : List ℕ) × (file_at files job.keys ≡ Some bytes) × FailsJudge (keys_of job bytes) fault

-- what was made of the keys of the keys file
abbrev pub EndsKeys : JudgeJob → Said → Files → Result Verdict JudgeFault → Type 0
EndsKeys job said files (Ok verdict) = IsVerdict job said files verdict
EndsKeys job said files (Err fault) = FailsKeys job files fault

-- how a job over files ends, before anything is printed
abbrev pub EndsFiles : JudgeJob → Files → Result Verdict JudgeStop → Type 0
EndsFiles job files (Ok verdict) = (said : Said) × ReadsAs files job.report said × IsVerdict job said files verdict
EndsFiles job files (Err (Report fault)) = FailsReport files job.report fault
EndsFiles job files (Err (Keys fault)) = (said : Said) × ReadsAs files job.report said × FailsKeys job files fault
