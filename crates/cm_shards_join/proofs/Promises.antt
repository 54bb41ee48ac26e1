-- From each end of a join to all that its job promises.
use Rattle.std.proofs.Common.{◌≡◌, ◌∙◌, ℕ, [], Result, Ok, Err, false, inl, refl, sym, ap, arith, Option}
use Rattle.cm_io.specs.Files.{Files, with_file}
use Rattle.cm_io.specs.NotingLaws.{noted_nothing}
use Rattle.cm_io.specs.States.{DiskState, IsSent, SinkState, outside}
use Rattle.cm_io.specs.WritingLaws.{then_nothing}
use Rattle.cm_shards_join.specs.Joins.{JoinsFunctions}
use Rattle.cm_shards_join.specs.Leaves.{HasStopCause, Leaves}
use Rattle.cm_shards_join.specs.Outcomes.{saving}
use Rattle.cm_shards_join.specs.Texts.{message_of, status_of}
use Rattle.cm_shards_join.specs.declared.stop.JoinStop.{JoinStop}
use Rattle.cm_shards_join.proofs.Ends.{joined_outcome, none_some, stop_high, stop_kept, stop_known, stop_lacks, stop_listed, stop_memory, stop_outcome, stop_part, stop_read, stop_unread, stop_write}
use Rattle.cm_shards_manifest.specs.ManifestBytes.{manifest_bytes}
use Rattle.cm_shards_words.specs.declared.jobs.JoinJob.{JoinJob}
use Rattle.cm_tool_stops.specs.DoesLaws.{neither}
use Rattle.cm_tool_stops.specs.EndLaws.{says_all}
use Rattle.cm_tool_stops.specs.Ending.{refusal}
use Rattle.cm_tool_stops.specs.Ends.{Says}

-- what a join did to the disk
pub record Left (job : JoinJob) (old new : DiskState) (end : Result (Unit {0}) JoinStop) : Type 0 where
  pub spilled : new.spilled ≡ old.spilled
  pub cause : HasStopCause old.read_faults new.read_faults old.write_faults new.write_faults end
  pub leaves : Leaves job old.files new.files end

says_nothing : (err : SinkState) → Says err err []
says_nothing err = says_all ((noted_nothing false err).wrote refl)

-- the manifest is saved
pub saved : (job : JoinJob) (old new : DiskState) (out err : SinkState) → Left job old new (Ok tt) → JoinsFunctions job (outside old out err) (outside new out err) 0
saved job old new out err left = record {
  does = record {
    status = refl;
    read = λ _. (λ four. absurd (omega (arith, four)), λ rose. absurd (omega (arith, left.cause.0, rose)));
    write = λ _. (λ five. absurd (omega (arith, five)), λ either. neither _ _ out.faults out.faults left.cause.1 refl either);
    outcome = λ _ _ _ files known.
        let is = left.leaves files known in
        record {
          outcome = saving job files is.m;
          is = joined_outcome job files is.m is.joined;
          status_is = refl;
          out = then_nothing out.written;
          err = says_nothing err;
          files_are = is.saved ∙ ap (λ (f : Option Files). with_file job.manifest (manifest_bytes is.m) f) known;
        };
    missing = λ files known none. let is = left.leaves files known in absurd (none_some (sym none ∙ joined_outcome job files is.m is.joined));
    unchanged = λ files known seven. absurd (omega (arith, seven));
    kept = λ lacks. absurd (cc);
    silent = λ _. refl;
    out = λ _. refl;
    unwritten = λ none. absurd (none tt);
    unspilled = λ _. left.spilled;
    left = λ either. absurd (omega (arith, either));
    sent = λ empty _. inl empty;
    err_sent = λ empty _. inl empty;
    err = (Ok tt, record { status_is = refl; says = says_nothing err });
  };
  saved = λ _. left.leaves;
}

-- there is none
pub unsaved : (job : JoinJob) (old new : DiskState) (out err_old err_new : SinkState) (stop : JoinStop) (status : ℕ) → Left job old new (Err stop) → status ≡ status_of stop → Says err_old err_new (message_of job stop) → IsSent err_old err_new
    → JoinsFunctions job (outside old out err_old) (outside new out err_new) status
unsaved job old new out err_old err_new stop status left is says sent =
    let high = stop_high stop in
    record {
      does = record {
        status = rw is (stop_listed job stop);
        read = λ low. rw is (stop_read stop _ _ _ _ left.cause low);
        write = λ low. rw is (stop_write stop _ _ _ _ out.faults left.cause (low.disk tt));
        outcome = λ four five six files known.
            let reached = stop_outcome job files old.files new.files stop left.leaves known (rw is at four) (rw is at five) (rw is at six) in
            record {
              outcome = refusal (status_of stop) (message_of job stop) files;
              is = reached.0;
              status_is = is;
              out = then_nothing out.written;
              err = says;
              files_are = reached.1;
            };
        missing = λ files known none.
            let lacks = stop_lacks job files old.files new.files stop left.leaves known none in
            record { status_is = rw is lacks.0; files_are = lacks.1; out = refl };
        unchanged = λ files known seven. stop_known stop (sym is ∙ seven);
        kept = λ lacks. stop_kept job old.files new.files stop left.leaves (rw is at lacks);
        silent = λ _. refl;
        out = λ _. refl;
        unwritten = λ none. absurd (none tt);
        unspilled = λ _. left.spilled;
        left = λ _. record {
          read = λ four files known. stop_unread job (outside old out err_old) (outside new out err_new) files stop left.leaves known says (sym is ∙ four);
          write = λ five. stop_part job old.files new.files stop left.leaves (sym is ∙ five);
          memory = λ six. stop_memory job old.files new.files stop left.leaves (sym is ∙ six);
        };
        sent = λ empty _. inl empty;
        err_sent = λ _. sent;
        err = (Err stop, record { status_is = is; says = says });
      };
      saved = λ zero. absurd (omega (arith, is, high, zero));
    }
