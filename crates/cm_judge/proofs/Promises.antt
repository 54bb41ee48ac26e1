-- From each end of a job to all that the top call promises.
use Rattle.std.proofs.Common.{◌≡◌, ◌∙◌, ℕ, [], take, Result, Ok, Err, false, inl, inr, refl, sym, arith}
use Rattle.std.proofs.lemmas.Bool.{false≢true}
use Rattle.std.specs.Option.{ForSome}
use Rattle.cm_io.specs.Causes.{Rose}
use Rattle.cm_io.specs.NotingLaws.{noted_nothing}
use Rattle.cm_io.specs.States.{DiskState, IsSent, SinkState, outside}
use Rattle.cm_io.specs.Writing.{then_bytes}
use Rattle.cm_judge.specs.Judges.{Judges, frame_of}
use Rattle.cm_judge.specs.Leaves.{EndDiffers, EndsFiles, HasStopCause, stop_message, stop_status}
use Rattle.cm_judge.specs.Outcomes.{saying, verdict_status}
use Rattle.cm_judge.specs.Texts.{program, verdict_text}
use Rattle.cm_judge.specs.declared.stop.JudgeStop.{JudgeStop}
use Rattle.cm_judge.proofs.Ends.{stop_high, stop_known, stop_lacks, stop_listed, stop_read, stop_unread, stopped, verdict_judged, verdict_listed, verdict_low, verdict_outcome, verdict_prints, verdict_some}
use Rattle.cm_judge_verdict.specs.declared.verdict.Verdict.{Verdict}
use Rattle.cm_judge_words.specs.declared.job.JudgeJob.{JudgeJob}
use Rattle.cm_tool_stops.specs.DoesLaws.{neither, unlisted}
use Rattle.cm_tool_stops.specs.EndLaws.{says_all}
use Rattle.cm_tool_stops.specs.Ends.{Says}
use Rattle.cm_tool_stops.specs.Messages.{cannot_write_out}

-- what a job did to the disk, before anything is printed
pub record Left (job : JudgeJob) (old new : DiskState) (end : Result Verdict JudgeStop) : Type 0 where
  pub files : new.files ≡ old.files
  pub spilled : new.spilled ≡ old.spilled
  pub write_faults : new.write_faults ≡ old.write_faults
  pub cause : HasStopCause old.read_faults new.read_faults end
  pub ends : ForSome old.files (λ files. EndsFiles job files end)
  pub numbers : EndDiffers end

says_nothing : (err : SinkState) → Says err err []
says_nothing err = says_all ((noted_nothing false err).wrote refl)

-- the verdict was printed
pub printed : (job : JudgeJob) (old new : DiskState) (out_old out_new err : SinkState) (verdict : Verdict) (status : ℕ) → Left job old new (Ok verdict) → status ≡ verdict_status verdict → out_new.written ≡ then_bytes out_old.written (verdict_text verdict)
    → out_new.faults ≡ out_old.faults → out_new.waits ≡ 0 → Judges job (outside old out_old err) (outside new out_new err) status
printed job old new out_old out_new err verdict status left is wrote fine sent =
    let low = verdict_low verdict in
    record {
      does = record {
        status = rw is (verdict_listed job verdict);
        read = λ _. (λ four. absurd (omega (arith, is, low, four)), λ rose. absurd (omega (arith, left.cause, rose)));
        write = λ _. (λ five. absurd (omega (arith, is, low, five)), λ either. neither _ _ _ _ left.write_faults fine either);
        outcome = λ _ _ _ files known. record {
          outcome = saying verdict files;
          is = verdict_outcome job files verdict (left.ends files known);
          status_is = is;
          out = wrote;
          err = says_nothing err;
          files_are = left.files ∙ known;
        };
        missing = λ files known none. absurd (verdict_some job files verdict (left.ends files known) none);
        unchanged = λ files known seven. absurd (omega (arith, is, low, seven));
        kept = λ _. left.files;
        silent = λ lacks. absurd (false≢true (sym (rw is at lacks) ∙ verdict_prints job verdict));
        out = λ none. absurd (cc);
        unwritten = λ _. left.write_faults;
        unspilled = λ _. left.spilled;
        left = λ either. absurd (omega (arith, is, low, either));
        sent = λ _ _. inl sent;
        err_sent = λ empty _. inl empty;
        err = ([], inl (Ok verdict, is, refl, tt), says_nothing err);
      };
      truth = λ _ files known. rw is (verdict_judged job files verdict (left.ends files known));
      printed = λ _. (verdict, is, wrote);
    }

-- out could not be written
pub unprinted : (job : JudgeJob) (old new : DiskState) (out_old out_new err_old err_new : SinkState) (verdict : Verdict) (status : ℕ) → Left job old new (Ok verdict) → status ≡ 5 → ((n : ℕ) × (out_new.written ≡ then_bytes out_old.written (take n (verdict_text verdict))))
    → Rose out_old.faults out_new.faults → Says err_old err_new (cannot_write_out program) → IsSent err_old err_new → Judges job (outside old out_old err_old) (outside new out_new err_new) status
unprinted job old new out_old out_new err_old err_new verdict status left is wrote rose says sent = record {
  does = record {
    status = rw is refl;
    read = λ _. (λ four. absurd (omega (arith, is, four)), λ more. absurd (omega (arith, left.cause, more)));
    write = λ low. (λ _. inr (rose (low.out (λ none. absurd (cc)))), λ _. is);
    outcome = λ _ other. absurd (other is);
    missing = λ files known none. absurd (verdict_some job files verdict (left.ends files known) none);
    unchanged = λ files known seven. absurd (omega (arith, is, seven));
    kept = λ _. left.files;
    silent = λ lacks. absurd (unlisted (frame_of job).prints status 5 lacks refl is);
    out = λ none. absurd (cc);
    unwritten = λ _. left.write_faults;
    unspilled = λ _. left.spilled;
    left = λ _. record {
      read = λ four. absurd (omega (arith, is, four));
      write = λ _. record { verdict = verdict; n = wrote.0; out = wrote.1; known = λ files known. verdict_outcome job files verdict (left.ends files known) };
    };
    sent = λ _ low. inr (rose low);
    err_sent = λ _. sent;
    err = (cannot_write_out program, inr (is, refl), says);
  };
  truth = λ either. absurd (omega (arith, is, either));
  printed = λ either. absurd (omega (arith, is, either));
}

-- there is no verdict
pub unjudged : (job : JudgeJob) (old new : DiskState) (out err_old err_new : SinkState) (stop : JudgeStop) (status : ℕ) → Left job old new (Err stop) → status ≡ stop_status stop → Says err_old err_new (stop_message job stop) → IsSent err_old err_new
    → Judges job (outside old out err_old) (outside new out err_new) status
unjudged job old new out err_old err_new stop status left is says sent =
    let high = stop_high stop in
    record {
      does = record {
        status = rw is (stop_listed job stop);
        read = λ low. rw is (stop_read stop _ _ left.cause low);
        write = λ _. (λ five. absurd (high.other (sym is ∙ five)), λ either. neither _ _ out.faults out.faults left.write_faults refl either);
        outcome = λ four _ six files known. rw is (stopped job files (outside old out err_old) (outside new out err_new) stop (left.ends files known) says refl (left.files ∙ known) (rw is at four) (rw is at six));
        missing = λ files known none. rw is (record { status_is = stop_lacks job files stop (left.ends files known) none; files_are = left.files; out = refl });
        unchanged = λ files known seven. stop_known job files stop (left.ends files known) (sym is ∙ seven);
        kept = λ _. left.files;
        silent = λ _. refl;
        out = λ none. absurd (cc);
        unwritten = λ _. left.write_faults;
        unspilled = λ _. left.spilled;
        left = λ _. record {
          read = λ four files known. stop_unread job files (outside old out err_old) (outside new out err_new) stop (left.ends files known) says (sym is ∙ four);
          write = λ five. absurd (high.other (sym is ∙ five));
        };
        sent = λ empty _. inl empty;
        err_sent = λ _. sent;
        err = (stop_message job stop, inl (Err stop, is, refl, left.numbers), says);
      };
      truth = λ either. absurd (omega (arith, is, high.high, either));
      printed = λ either. absurd (omega (arith, is, high.high, either));
    }
