-- What a job of the judge comes to, by the files.
use Rattle.std.specs.Prelude.{ℕ, List, [], ◌∷◌, Option, None, Some, Result, Ok, Err}
use Rattle.std.specs.Option.{option_map}
use Rattle.cm_io.specs.Files.{Files, file_at}
use Rattle.cm_io.specs.Passes.{Told}
use Rattle.cm_io.specs.declared.key_pass.KeyFault.{KeyFault}
use Rattle.cm_judge.specs.Texts.{bad_report, program, verdict_text}
use Rattle.cm_judge_verdict.specs.Verdicts.{verdict_of}
use Rattle.cm_judge_verdict.specs.declared.verdict.Settings.{Settings}
use Rattle.cm_judge_verdict.specs.declared.verdict.Verdict.{Verdict}
use Rattle.cm_judge_verdict.specs.declared.verdict.Verdict.TheVariants.{Fails, Holds}
use Rattle.cm_judge_words.specs.declared.job.JudgeJob.{JudgeJob}
use Rattle.cm_keys.specs.Lines.{keys_in}
use Rattle.cm_tool_stops.specs.Ending.{Outcome, refusal}
use Rattle.cm_tool_stops.specs.Messages.{fault_message, no_keys}
use Rattle.cm_witness_report.specs.Reading.{reading_of}
use Rattle.cm_witness_report.specs.Reports.{Said}

-- the options of the build whose report is judged
abbrev pub settings_of : JudgeJob → Settings
settings_of job = record { c = job.c; b = job.b }

-- the keys in the bytes of the keys file, and the fault at their end
abbrev pub keys_of : JudgeJob → List ℕ → Told
keys_of job bytes = keys_in job.first job.end bytes

-- the status of a verdict
abbrev pub verdict_status : Verdict → ℕ
verdict_status Holds = 0
verdict_status (Fails reason) = 1

-- a verdict is printed, and nothing else is done
abbrev pub saying : Verdict → Files → Outcome
saying verdict files = record { status = verdict_status verdict; out = verdict_text verdict; err = []; files = files }

-- the outcome of a report by these keys and the fault at their end
abbrev pub judging : JudgeJob → Files → Said → List (ℕ × List ℕ) → Option KeyFault → Outcome
judging job files said keys (Some fault) = refusal 8 (fault_message program job.keys fault) files
judging job files said [] None = refusal 8 (no_keys program job.keys) files
judging job files said (key ∷ keys) None = saying (verdict_of said (key ∷ keys) (settings_of job)) files

-- the outcome over the bytes of the keys file
unfoldable pub outcome_over : JudgeJob → Files → Said → List ℕ → Outcome
outcome_over job files said bytes = judging job files said (keys_of job bytes).keys (keys_of job bytes).fault

-- by what was read as the report, and the bytes of the keys file, if it is there, which is needed if there is a report
abbrev pub outcome_by : JudgeJob → Files → Result Said ℕ → Option (List ℕ) → Option Outcome
outcome_by job files (Err line) keys = Some (refusal 3 (bad_report program job.report line) files)
outcome_by job files (Ok said) keys = option_map (outcome_over job files said) keys

-- by the bytes of the report, if it is there, and those of the keys file
abbrev pub outcome_in : JudgeJob → Files → Option (List ℕ) → Option (List ℕ) → Option Outcome
outcome_in job files None keys = None
outcome_in job files (Some report) keys = outcome_by job files (reading_of report) keys

-- the outcome, if the report is there, and the keys file, where it is needed
abbrev pub outcome_of : JudgeJob → Files → Option Outcome
outcome_of job files = outcome_in job files (file_at files job.report) (file_at files job.keys)
