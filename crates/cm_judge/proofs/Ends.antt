-- From the end of a job to what the top call promises.
use Rattle.std.proofs.Common.{◌≡◌, ◌≢◌, ◌∙◌, ◌⊎◌, ◌↔◌, ℕ, ◌<◌, ◌^◌, List, [], ◌∷◌, length, Option, None, Some, Result, Ok, Err, true, inl, inr, refl, ap, sym, arith}
use Rattle.std.specs.Option.{option_map}
use Rattle.cm_io.specs.Files.{Files, file_at}
use Rattle.cm_io.specs.States.{Outside}
use Rattle.cm_io.specs.WritingLaws.{then_nothing}
use Rattle.cm_io.specs.declared.key_pass.KeyFault.{KeyFault}
use Rattle.cm_io.specs.declared.key_pass.KeyFault.TheVariants as key_fault
use Rattle.cm_judge.specs.Judges.{IsJudged, StoppedReading, frame_of}
use Rattle.cm_judge.specs.Leaves.{EndsFiles, HasStopCause, IsBad, ReadsAs, stop_message, stop_status}
use Rattle.cm_judge.specs.Outcomes as outcomes
use Rattle.cm_judge.specs.Outcomes.{judging, keys_of, outcome_by, outcome_in, outcome_of, saying, settings_of, verdict_status}
use Rattle.cm_judge.specs.Texts.{bad_report, program}
use Rattle.cm_judge.specs.declared.stop.JudgeStop.{JudgeStop}
use Rattle.cm_judge.specs.declared.stop.JudgeStop.TheVariants.{Keys, Report}
use Rattle.cm_judge_reports.specs.declared.fault.JudgeFault.TheVariants as judge_fault
use Rattle.cm_judge_verdict.specs.Verdicts.{verdict_of}
use Rattle.cm_judge_verdict.specs.declared.verdict.Verdict.{Verdict}
use Rattle.cm_judge_verdict.specs.declared.verdict.Verdict.TheVariants.{Fails, Holds}
use Rattle.cm_judge_words.specs.declared.job.JudgeJob.{JudgeJob}
use Rattle.cm_spec.specs.Lists.{has}
use Rattle.cm_tool_stops.specs.Ending.{Outcome, Reaches, refusal}
use Rattle.cm_tool_stops.specs.Ends.{Says}
use Rattle.cm_witness_report.specs.Reports.{Said}
use Rattle.cm_witness_report.specs.declared.report.ReportFault.TheVariants as report_fault

none_some : {o : Outcome} → None ≡ Some o → ⊥
none_some e = absurd (cc)

-- the statuses are those of a judge
pub verdict_listed : (job : JudgeJob) (verdict : Verdict) → has (frame_of job).statuses (verdict_status verdict) ≡ true
verdict_listed job Holds = refl
verdict_listed job (Fails reason) = refl

pub stop_listed : (job : JudgeJob) (stop : JudgeStop) → has (frame_of job).statuses (stop_status stop) ≡ true
stop_listed job (Report report_fault.Memory) = refl
stop_listed job (Report report_fault.Read) = refl
stop_listed job (Report (report_fault.Bad line)) = refl
stop_listed job (Keys judge_fault.Memory) = refl
stop_listed job (Keys judge_fault.NoKeys) = refl
stop_listed job (Keys (judge_fault.Key key_fault.Read)) = refl
stop_listed job (Keys (judge_fault.Key (key_fault.TooLong line))) = refl
stop_listed job (Keys (judge_fault.Key key_fault.TooMany)) = refl
stop_listed job (Keys (judge_fault.Changed first again)) = refl

-- a verdict is printed
pub verdict_prints : (job : JudgeJob) (verdict : Verdict) → has (frame_of job).prints (verdict_status verdict) ≡ true
verdict_prints job Holds = refl
verdict_prints job (Fails reason) = refl

-- that of a verdict is 0 or 1
pub verdict_low : (verdict : Verdict) → verdict_status verdict < 2
verdict_low Holds = omega arith
verdict_low (Fails reason) = omega arith

-- and it is 0 exactly if the report holds
pub verdict_zero : (verdict : Verdict) → (verdict_status verdict ≡ 0) ↔ (verdict ≡ Holds)
verdict_zero Holds = (λ _. refl, λ _. refl)
verdict_zero (Fails reason) = (λ zero. absurd (omega (arith, zero)), λ holds. absurd (cc))

-- that of a stop is neither, nor that of out that can't be written
pub record IsStopStatus (status : ℕ) : Type 0 where
  pub high : 2 < status
  pub other : status ≢ 5

pub stop_high : (stop : JudgeStop) → IsStopStatus (stop_status stop)
stop_high (Report report_fault.Memory) = record { high = omega arith; other = λ five. absurd (omega (arith, five)) }
stop_high (Report report_fault.Read) = record { high = omega arith; other = λ five. absurd (omega (arith, five)) }
stop_high (Report (report_fault.Bad line)) = record { high = omega arith; other = λ five. absurd (omega (arith, five)) }
stop_high (Keys judge_fault.Memory) = record { high = omega arith; other = λ five. absurd (omega (arith, five)) }
stop_high (Keys judge_fault.NoKeys) = record { high = omega arith; other = λ five. absurd (omega (arith, five)) }
stop_high (Keys (judge_fault.Key key_fault.Read)) = record { high = omega arith; other = λ five. absurd (omega (arith, five)) }
stop_high (Keys (judge_fault.Key (key_fault.TooLong line))) = record { high = omega arith; other = λ five. absurd (omega (arith, five)) }
stop_high (Keys (judge_fault.Key key_fault.TooMany)) = record { high = omega arith; other = λ five. absurd (omega (arith, five)) }
stop_high (Keys (judge_fault.Changed first again)) = record { high = omega arith; other = λ five. absurd (omega (arith, five)) }

-- it is 4 exactly if the count of reading rose
pub stop_read : (stop : JudgeStop) (r r_now : ℕ) → HasStopCause r r_now (Err stop) → r < 2 ^ 63 → (stop_status stop ≡ 4) ↔ (r < r_now)
stop_read (Report report_fault.Memory) r r_now cause low = (λ four. absurd (omega (arith, four)), λ rose. absurd (omega (arith, rose, cause)))
stop_read (Report report_fault.Read) r r_now cause low = (λ _. cause.1 low, λ _. refl)
stop_read (Report (report_fault.Bad line)) r r_now cause low = (λ four. absurd (omega (arith, four)), λ rose. absurd (omega (arith, rose, cause)))
stop_read (Keys judge_fault.Memory) r r_now cause low = (λ four. absurd (omega (arith, four)), λ rose. absurd (omega (arith, rose, cause)))
stop_read (Keys judge_fault.NoKeys) r r_now cause low = (λ four. absurd (omega (arith, four)), λ rose. absurd (omega (arith, rose, cause)))
stop_read (Keys (judge_fault.Key key_fault.Read)) r r_now cause low = (λ _. cause.1 low, λ _. refl)
stop_read (Keys (judge_fault.Key (key_fault.TooLong line))) r r_now cause low = (λ four. absurd (omega (arith, four)), λ rose. absurd (omega (arith, rose, cause)))
stop_read (Keys (judge_fault.Key key_fault.TooMany)) r r_now cause low = (λ four. absurd (omega (arith, four)), λ rose. absurd (omega (arith, rose, cause)))
stop_read (Keys (judge_fault.Changed first again)) r r_now cause low = (λ four. absurd (omega (arith, four)), λ rose. absurd (omega (arith, rose, cause)))

-- the outcome over known bytes of the keys file
pub keys_outcome : (job : JudgeJob) (files : Files) (said : Said) (bytes : List ℕ) (keys : List (ℕ × List ℕ)) (fault : Option KeyFault) → ReadsAs files job.report said → file_at files job.keys ≡ Some bytes → (keys_of job bytes).keys ≡ keys → (keys_of job bytes).fault ≡ fault
    → outcome_of job files ≡ Some (judging job files said keys fault)
unfolding outcomes.outcome_over
keys_outcome job files said bytes keys fault reads there keys_are fault_is =
    ap (λ (found : Option (List ℕ)). outcome_in job files found (file_at files job.keys)) reads.1
    ∙ ap (λ (read : Result Said ℕ). outcome_by job files read (file_at files job.keys)) reads.2
    ∙ ap (option_map (outcomes.outcome_over job files said)) there
    ∙ ap (λ (ks : List (ℕ × List ℕ)). Some (judging job files said ks (keys_of job bytes).fault)) keys_are
    ∙ ap (λ (e : Option KeyFault). Some (judging job files said keys e)) fault_is

-- and over those of a file that is no report
pub bad_outcome : (job : JudgeJob) (files : Files) (line : ℕ) → IsBad files job.report line → outcome_of job files ≡ Some (refusal 3 (bad_report program job.report line) files)
bad_outcome job files line bad =
    ap (λ (found : Option (List ℕ)). outcome_in job files found (file_at files job.keys)) bad.1
    ∙ ap (λ (read : Result Said ℕ). outcome_by job files read (file_at files job.keys)) bad.2

judging_some : (job : JudgeJob) (files : Files) (said : Said) (keys : List (ℕ × List ℕ)) → 0 < length keys → judging job files said keys None ≡ saying (verdict_of said keys (settings_of job)) files
judging_some job files said [] some = absurd (omega (arith, some))
judging_some job files said (key ∷ keys) some = refl

-- there is a verdict, which is the outcome
pub verdict_outcome : (job : JudgeJob) (files : Files) (verdict : Verdict) → EndsFiles job files (Ok verdict) → outcome_of job files ≡ Some (saying verdict files)
verdict_outcome job files verdict ends =
    let is = ends.2 in
    keys_outcome job files ends.0 is.bytes _ None ends.1 is.there refl is.sound
    ∙ ap Some (judging_some job files ends.0 (keys_of job is.bytes).keys is.some ∙ ap (λ (v : Verdict). saying v files) (sym is.is))

-- and the report is true exactly if it holds
pub verdict_judged : (job : JudgeJob) (files : Files) (verdict : Verdict) → EndsFiles job files (Ok verdict) → IsJudged job (verdict_status verdict) files
verdict_judged job files verdict ends =
    let is = ends.2 in
    let zero = verdict_zero verdict in
    record {
      report = ends.1.0;
      said = ends.0;
      bytes = is.bytes;
      report_there = ends.1.1;
      reads = ends.1.2;
      keys_there = is.there;
      sound = is.sound;
      some = is.some;
      truth = (λ is_zero. is.truth.0 (zero.0 is_zero), λ is_true. zero.1 (is.truth.1 is_true));
    }

-- known keys never change
pub stop_known : (job : JudgeJob) (files : Files) (stop : JudgeStop) → EndsFiles job files (Err stop) → stop_status stop ≢ 7
stop_known job files (Report report_fault.Memory) ends seven = absurd (omega (arith, seven))
stop_known job files (Report report_fault.Read) ends seven = absurd (omega (arith, seven))
stop_known job files (Report (report_fault.Bad line)) ends seven = absurd (omega (arith, seven))
stop_known job files (Keys judge_fault.Memory) ends seven = absurd (omega (arith, seven))
stop_known job files (Keys judge_fault.NoKeys) ends seven = absurd (omega (arith, seven))
stop_known job files (Keys (judge_fault.Key key_fault.Read)) ends seven = absurd (omega (arith, seven))
stop_known job files (Keys (judge_fault.Key (key_fault.TooLong line))) ends seven = absurd (omega (arith, seven))
stop_known job files (Keys (judge_fault.Key key_fault.TooMany)) ends seven = absurd (omega (arith, seven))
stop_known job files (Keys (judge_fault.Changed first again)) ends seven = absurd ends.2.2

-- the outcome of a job that stopped, but not for memory or a fault of a file
pub stop_outcome : (job : JudgeJob) (files : Files) (stop : JudgeStop) → EndsFiles job files (Err stop) → stop_status stop ≢ 4 → stop_status stop ≢ 6 → outcome_of job files ≡ Some (refusal (stop_status stop) (stop_message job stop) files)
stop_outcome job files (Report report_fault.Memory) ends four six = absurd (six refl)
stop_outcome job files (Report report_fault.Read) ends four six = absurd (four refl)
stop_outcome job files (Report (report_fault.Bad line)) ends four six = bad_outcome job files line ends
stop_outcome job files (Keys judge_fault.Memory) ends four six = absurd (six refl)
stop_outcome job files (Keys judge_fault.NoKeys) ends four six = keys_outcome job files ends.0 ends.2.0 [] None ends.1 ends.2.1 ends.2.2.0 ends.2.2.1
stop_outcome job files (Keys (judge_fault.Key key_fault.Read)) ends four six = absurd (four refl)
stop_outcome job files (Keys (judge_fault.Key (key_fault.TooLong line))) ends four six = keys_outcome job files ends.0 ends.2.0 _ (Some (key_fault.TooLong line)) ends.1 ends.2.1 refl ends.2.2
stop_outcome job files (Keys (judge_fault.Key key_fault.TooMany)) ends four six = keys_outcome job files ends.0 ends.2.0 _ (Some key_fault.TooMany) ends.1 ends.2.1 refl ends.2.2
stop_outcome job files (Keys (judge_fault.Changed first again)) ends four six = absurd ends.2.2

-- and what it left is that
pub stopped : (job : JudgeJob) (files : Files) (old new : Outside) (stop : JudgeStop) → EndsFiles job files (Err stop) → Says old.err new.err (stop_message job stop) → new.out.written ≡ old.out.written → new.disk.files ≡ Some files
    → stop_status stop ≢ 4 → stop_status stop ≢ 6 → Reaches old new (outcome_of job files) (stop_status stop)
stopped job files old new stop ends says out same four six = record {
  outcome = refusal (stop_status stop) (stop_message job stop) files;
  is = stop_outcome job files stop ends four six;
  status_is = refl;
  out = out ∙ then_nothing old.out.written;
  err = says;
  files_are = same;
}

-- a job that stopped at a file that could not be read
pub stop_unread : (job : JudgeJob) (files : Files) (old new : Outside) (stop : JudgeStop) → EndsFiles job files (Err stop) → Says old.err new.err (stop_message job stop) → stop_status stop ≡ 4 → StoppedReading job old new files
stop_unread job files old new (Report report_fault.Memory) ends says four = absurd (omega (arith, four))
stop_unread job files old new (Report report_fault.Read) ends says four = inl says
stop_unread job files old new (Report (report_fault.Bad line)) ends says four = absurd (omega (arith, four))
stop_unread job files old new (Keys judge_fault.Memory) ends says four = absurd (omega (arith, four))
stop_unread job files old new (Keys judge_fault.NoKeys) ends says four = absurd (omega (arith, four))
stop_unread job files old new (Keys (judge_fault.Key key_fault.Read)) ends says four = inr (ends.0, ends.1, says)
stop_unread job files old new (Keys (judge_fault.Key (key_fault.TooLong line))) ends says four = absurd (omega (arith, four))
stop_unread job files old new (Keys (judge_fault.Key key_fault.TooMany)) ends says four = absurd (omega (arith, four))
stop_unread job files old new (Keys (judge_fault.Changed first again)) ends says four = absurd (omega (arith, four))

-- a stop over files by which there is no outcome
pub stop_lacks : (job : JudgeJob) (files : Files) (stop : JudgeStop) → EndsFiles job files (Err stop) → outcome_of job files ≡ None → (stop_status stop ≡ 4) ⊎ (stop_status stop ≡ 6)
stop_lacks job files (Report report_fault.Memory) ends none = inr refl
stop_lacks job files (Report report_fault.Read) ends none = inl refl
stop_lacks job files (Report (report_fault.Bad line)) ends none = absurd (none_some (sym none ∙ bad_outcome job files line ends))
stop_lacks job files (Keys judge_fault.Memory) ends none = inr refl
stop_lacks job files (Keys judge_fault.NoKeys) ends none = absurd (none_some (sym none ∙ keys_outcome job files ends.0 ends.2.0 _ _ ends.1 ends.2.1 refl refl))
stop_lacks job files (Keys (judge_fault.Key key_fault.Read)) ends none = inl refl
stop_lacks job files (Keys (judge_fault.Key (key_fault.TooLong line))) ends none = absurd (none_some (sym none ∙ keys_outcome job files ends.0 ends.2.0 _ _ ends.1 ends.2.1 refl refl))
stop_lacks job files (Keys (judge_fault.Key key_fault.TooMany)) ends none = absurd (none_some (sym none ∙ keys_outcome job files ends.0 ends.2.0 _ _ ends.1 ends.2.1 refl refl))
stop_lacks job files (Keys (judge_fault.Changed first again)) ends none = absurd ends.2.2

-- there is one if there is a verdict
pub verdict_some : (job : JudgeJob) (files : Files) (verdict : Verdict) → EndsFiles job files (Ok verdict) → outcome_of job files ≡ None → ⊥
verdict_some job files verdict ends none = none_some (sym none ∙ verdict_outcome job files verdict ends)
