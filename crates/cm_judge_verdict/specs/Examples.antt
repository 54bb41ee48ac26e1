-- What the judge says of texts, for the worked examples.
use Rattle.std.specs.Prelude.{ℕ, List, None, Result, Ok, Err}
use Rattle.cm_judge_verdict.specs.Verdicts.{verdict_of}
use Rattle.cm_judge_verdict.specs.declared.verdict.Settings.{Settings}
use Rattle.cm_judge_verdict.specs.declared.verdict.Verdict.{Verdict}
use Rattle.cm_witness_report.specs.Reading.{reading_of}
use Rattle.cm_witness_report.specs.Reports.{Said}

-- the settings of a build without options
abbrev pub usual : Settings
usual = record { c = None; b = 128 }

-- what the judge says of what was read
abbrev pub verdict_on : Result Said ℕ → List (ℕ × List ℕ) → Result Verdict ℕ
verdict_on (Ok said) keys = Ok (verdict_of said keys usual)
verdict_on (Err line) keys = Err line

-- what the judge says of the report with this text, or the first line at which the text is no report
abbrev pub judged : List ℕ → List (ℕ × List ℕ) → Result Verdict ℕ
judged text keys = verdict_on (reading_of text) keys
