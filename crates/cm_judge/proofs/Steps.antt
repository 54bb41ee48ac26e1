-- From the steps of a job to how it ends.
use Rattle.std.proofs.Common.{◌≡◌, ◌∙◌, ◌↔◌, ℕ, ◌<◌, ◌+◌, List, [], Option, None, Some, Result, Ok, Err, map, length, get_or, ap, sym, arith}
use Rattle.std.specs.Option.{ForSome, option_map}
use Rattle.std.specs.Prelude.{IfErr, IfOk}
use Rattle.std.proofs.lemmas.List.{get_or-map, length-map}
use Rattle.cm_io.specs.Files.{Files, file_at}
use Rattle.cm_io.specs.Passes.{Told}
use Rattle.cm_io.specs.declared.key_pass.KeyFault.TheVariants as key_fault
use Rattle.cm_judge.specs.Leaves.{EndsKeys, FailsKeys, IsVerdict, LoadsReport}
use Rattle.cm_judge.specs.Outcomes.{keys_of, settings_of}
use Rattle.cm_judge_reports.specs.Faults.{FailsJudge}
use Rattle.cm_judge_reports.specs.declared.fault.JudgeFault.{JudgeFault}
use Rattle.cm_judge_reports.specs.declared.fault.JudgeFault.TheVariants as judge_fault
use Rattle.cm_judge_verdict.specs.Truth.{HaveRisingLines, IsTrue}
use Rattle.cm_judge_verdict.specs.Verdicts.{verdict_of}
use Rattle.cm_judge_verdict.specs.declared.verdict.Settings.{Settings}
use Rattle.cm_judge_verdict.specs.declared.verdict.Verdict.{Verdict}
use Rattle.cm_judge_verdict.specs.declared.verdict.Verdict.TheVariants.{Holds}
use Rattle.cm_judge_words.specs.declared.job.JudgeJob.{JudgeJob}
use Rattle.cm_keys.specs.NumberingLaws.{AreNumbered}
use Rattle.cm_witness_report.specs.Reading.{Tells, reading_of, said_of}
use Rattle.cm_witness_report.specs.Reports.{IsReport, Said}
use Rattle.cm_witness_report.specs.declared.report.Report as report
use Rattle.cm_witness_report.specs.declared.report.ReportFault.{ReportFault}
use Rattle.cm_witness_report.specs.declared.report.ReportFault.TheVariants as report_fault

-- what was read from a file, by its bytes
pub loads_from : (files : Files) (path bytes : List ℕ) (loaded : Result report.Report ReportFault) → file_at files path ≡ Some bytes → Tells said_of loaded (reading_of bytes) → LoadsReport files path loaded
loads_from files path bytes (Ok x) there is = (bytes, there, is)
loads_from files path bytes (Err report_fault.Memory) there is = tt
loads_from files path bytes (Err report_fault.Read) there is = tt
loads_from files path bytes (Err (report_fault.Bad line)) there is = (bytes, there, is)

-- the lines of numbered keys rise
pub lines_rise : {max longest : ℕ} {first : Option ℕ} {told : Told} → AreNumbered max longest first told → HaveRisingLines told.keys
lines_rise {told = told} law = λ k inside.
    let line : ℕ × List ℕ → ℕ = λ key. key.0 in
    let d : ℕ × List ℕ = (0, []) in
    let long : length (map line told.keys) ≡ length told.keys = length-map told.keys line in
    let here : get_or (map line told.keys) k 0 ≡ k + 1 = get_or-map line told.keys k d 0 (omega (arith, inside, long)) ∙ law.numbered k d (omega (arith, inside, long)) in
    let next : get_or (map line told.keys) (k + 1) 0 ≡ k + 1 + 1 = get_or-map line told.keys (k + 1) d 0 (omega (arith, inside, long)) ∙ law.numbered (k + 1) d (omega (arith, inside, long)) in
    omega (arith, here, next)

-- a verdict holds exactly if the report is true
abbrev pub IsExact : Type 0
IsExact = (said : Said) (keys : List (ℕ × List ℕ)) (settings : Settings) → IsReport said → HaveRisingLines keys → (verdict_of said keys settings ≡ Holds) ↔ IsTrue said keys settings

-- the verdict by the keys of a file
pub verdict_from : IsExact → (job : JudgeJob) (said : Said) (files : Files) (bytes : List ℕ) (verdict : Verdict) → IsReport said → HaveRisingLines (keys_of job bytes).keys → file_at files job.keys ≡ Some bytes
    → ((keys_of job bytes).fault ≡ None) × (0 < length (keys_of job bytes).keys) × (verdict ≡ verdict_of said (keys_of job bytes).keys (settings_of job)) → IsVerdict job said files verdict
verdict_from exact job said files bytes verdict valid rise there judged =
    let law = exact said (keys_of job bytes).keys (settings_of job) valid rise in
    record {
      bytes = bytes;
      there = there;
      sound = judged.0;
      some = judged.1;
      is = judged.2;
      truth = (λ holds. law.0 (sym judged.2 ∙ holds), λ is_true. judged.2 ∙ law.1 is_true);
    }

-- why there is none by them
pub fails_from : (job : JudgeJob) (files : Files) (bytes : List ℕ) (fault : JudgeFault) → file_at files job.keys ≡ Some bytes → FailsJudge (keys_of job bytes) fault → FailsKeys job files fault
fails_from job files bytes judge_fault.Memory there fails = tt
fails_from job files bytes judge_fault.NoKeys there fails = (bytes, there, fails)
fails_from job files bytes (judge_fault.Key key_fault.Read) there fails = tt
fails_from job files bytes (judge_fault.Key (key_fault.TooLong line)) there fails = (bytes, there, fails)
fails_from job files bytes (judge_fault.Key key_fault.TooMany) there fails = (bytes, there, fails)
fails_from job files bytes (judge_fault.Changed first again) there fails = absurd fails

-- what was made of the keys of a file, which were passed as these known keys
pub ends_keys : IsExact → (job : JudgeJob) (said : Said) (files : Files) (bytes : List ℕ) (source : Option (List ℕ)) (known : Option Told) (judged : Result Verdict JudgeFault) → IsReport said → HaveRisingLines (keys_of job bytes).keys → file_at files job.keys ≡ Some bytes
    → source ≡ Some bytes → known ≡ option_map (keys_of job) source → IfOk judged (λ _. ForSome known (λ told. (told.fault ≡ None) × (0 < length told.keys))) → IfOk judged (λ verdict. ForSome known (λ told. verdict ≡ verdict_of said told.keys (settings_of job)))
    → IfErr judged (λ fault. ForSome known (λ told. FailsJudge told fault)) → EndsKeys job said files judged
ends_keys exact job said files bytes source known (Ok verdict) valid rise there tells known_is some is fails =
    let here = known_is ∙ ap (λ (s : Option (List ℕ)). option_map (keys_of job) s) tells in
    let sound = some (keys_of job bytes) here in
    verdict_from exact job said files bytes verdict valid rise there (sound.0, sound.1, is (keys_of job bytes) here)
ends_keys exact job said files bytes source known (Err fault) valid rise there tells known_is some is fails = fails_from job files bytes fault there (fails (keys_of job bytes) (known_is ∙ ap (λ (s : Option (List ℕ)). option_map (keys_of job) s) tells))
