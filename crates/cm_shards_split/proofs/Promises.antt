-- From each end of a split to all that its job promises.
use Rattle.std.proofs.Common.{◌≡◌, ◌≢◌, ◌∙◌, ◌⊎◌, ◌↔◌, ℕ, ◌<◌, ◌^◌, List, [], Option, None, Some, Result, Ok, Err, true, false, inl, inr, refl, ap, sym, arith}
use Rattle.std.proofs.lemmas.Bool.{false≢true}
use Rattle.std.specs.Option.{ForSome, option_map}
use Rattle.cm_io.specs.Files.{Files, file_at}
use Rattle.cm_io.specs.NotingLaws.{noted_nothing}
use Rattle.cm_io.specs.States.{DiskState, IsSent, Outside, SinkState, outside}
use Rattle.cm_io.specs.WritingLaws.{then_nothing}
use Rattle.cm_io.specs.declared.key_pass.KeyFault.{KeyFault}
use Rattle.cm_io.specs.declared.key_pass.KeyFault.TheVariants as key_fault
use Rattle.cm_shards_split.specs.Leaves.{IsSplitInto, LeavesFiles}
use Rattle.cm_shards_split.specs.Outcomes as outcomes
use Rattle.cm_shards_split.specs.Outcomes.{lines_of, outcome_of, splitting, told_of}
use Rattle.cm_shards_split.specs.Splits.{IsUnfinished, frame_of}
use Rattle.cm_shards_split.specs.Stops.{stop_message, stop_status}
use Rattle.cm_shards_split.specs.Streaming.{HasSplitCause}
use Rattle.cm_shards_split.specs.declared.stop.SplitStop.{SplitStop}
use Rattle.cm_shards_split.specs.declared.stop.SplitStop.TheVariants.{Memory, Read, TooLong, TooMany, Write}
use Rattle.cm_shards_words.specs.Messages.{line_fault_message}
use Rattle.cm_shards_words.specs.declared.jobs.SplitJob.{SplitJob}
use Rattle.cm_spec.specs.Lists.{has}
use Rattle.cm_tool_stops.specs.Does.{Does}
use Rattle.cm_tool_stops.specs.DoesLaws.{neither, unlisted}
use Rattle.cm_tool_stops.specs.EndLaws.{says_all}
use Rattle.cm_tool_stops.specs.Ending.{LacksFile, Outcome, Reaches}
use Rattle.cm_tool_stops.specs.Ends.{Says}

-- what a split did to the disk
pub record Left (job : SplitJob) (old new : DiskState) (end : Result (Unit {0}) SplitStop) : Type 0 where
  pub spilled : new.spilled ≡ old.spilled
  pub cause : HasSplitCause old.read_faults new.read_faults old.write_faults new.write_faults end
  pub leaves : ForSome old.files (λ files. LeavesFiles job files new.files end)

none_some : {o : Outcome} → None ≡ Some o → ⊥
none_some e = absurd (cc)

says_nothing : (err : SinkState) → Says err err []
says_nothing err = says_all ((noted_nothing false err).wrote refl)

-- the outcome over known bytes of the keys file
outcome_is : (job : SplitJob) (files : Files) (bytes : List ℕ) (fault : Option KeyFault) → file_at files job.keys ≡ Some bytes → (told_of job bytes).fault ≡ fault → outcome_of job files ≡ Some (splitting job files (lines_of (told_of job bytes)) fault)
unfolding outcomes.outcome_over
outcome_is job files bytes fault there is = ap (option_map (outcomes.outcome_over job files)) there ∙ ap (λ (f : Option KeyFault). Some (splitting job files (lines_of (told_of job bytes)) f)) is

outcome_there : (job : SplitJob) (files : Files) (bytes : List ℕ) → file_at files job.keys ≡ Some bytes → outcome_of job files ≡ None → ⊥
outcome_there job files bytes there none = none_some (sym none ∙ outcome_is job files bytes (told_of job bytes).fault there refl)

-- all lines are split
pub whole : (job : SplitJob) (old new : DiskState) (out err : SinkState) (status : ℕ) → Left job old new (Ok tt) → status ≡ 0 → Does (frame_of job) (outside old out err) (outside new out err) status
whole job old new out err status left is = record {
  status = rw is refl;
  read = λ _. (λ four. absurd (omega (arith, is, four)), λ rose. absurd (omega (arith, left.cause.0, rose)));
  write = λ _. (λ five. absurd (omega (arith, is, five)), λ either. neither _ _ out.faults out.faults left.cause.1 refl either);
  outcome = λ _ _ _ files known.
      let split = left.leaves files known in
      record {
        outcome = splitting job files (lines_of (told_of job split.0)) None;
        is = outcome_is job files split.0 None split.1 split.2;
        status_is = is;
        out = then_nothing out.written;
        err = says_nothing err;
        files_are = split.3;
      };
  missing = λ files known none. absurd (outcome_there job files (left.leaves files known).0 (left.leaves files known).1 none);
  unchanged = λ files known seven. absurd (omega (arith, is, seven));
  kept = λ lacks. absurd (unlisted (frame_of job).saves status 0 lacks refl is);
  silent = λ _. refl;
  out = λ _. refl;
  unwritten = λ none. absurd (none tt);
  unspilled = λ _. left.spilled;
  left = λ stopped. absurd (omega (arith, is, stopped));
  sent = λ empty _. inl empty;
  err_sent = λ empty _. inl empty;
  err = (Ok tt, is, says_nothing err);
}

stop_listed : (job : SplitJob) (stop : SplitStop) → has (frame_of job).statuses (stop_status stop) ≡ true
stop_listed job Memory = refl
stop_listed job Read = refl
stop_listed job Write = refl
stop_listed job (TooLong line) = refl
stop_listed job TooMany = refl

-- it is not 7
stop_known : (stop : SplitStop) → stop_status stop ≢ 7
stop_known Memory = λ seven. omega (arith, seven)
stop_known Read = λ seven. omega (arith, seven)
stop_known Write = λ seven. omega (arith, seven)
stop_known (TooLong line) = λ seven. omega (arith, seven)
stop_known TooMany = λ seven. omega (arith, seven)

stop_read : (stop : SplitStop) (r r' w w' : ℕ) → HasSplitCause {T = Unit {0}} r r' w w' (Err stop) → r < 2 ^ 63 → (stop_status stop ≡ 4) ↔ (r < r')
stop_read Memory r r' w w' cause low = (λ four. absurd (omega (arith, four)), λ rose. absurd (omega (arith, rose, cause.0)))
stop_read Read r r' w w' cause low = (λ _. cause.1 low, λ _. refl)
stop_read Write r r' w w' cause low = (λ four. absurd (omega (arith, four)), λ rose. absurd (omega (arith, rose, cause.0)))
stop_read (TooLong line) r r' w w' cause low = (λ four. absurd (omega (arith, four)), λ rose. absurd (omega (arith, rose, cause.0)))
stop_read TooMany r r' w w' cause low = (λ four. absurd (omega (arith, four)), λ rose. absurd (omega (arith, rose, cause.0)))

stop_write : (stop : SplitStop) (r r' w w' o : ℕ) → HasSplitCause {T = Unit {0}} r r' w w' (Err stop) → w < 2 ^ 63 → (stop_status stop ≡ 5) ↔ ((w < w') ⊎ (o < o))
stop_write Memory r r' w w' o cause low = (λ five. absurd (omega (arith, five)), λ either. neither w w' o o cause.1 refl either)
stop_write Read r r' w w' o cause low = (λ five. absurd (omega (arith, five)), λ either. neither w w' o o cause.2 refl either)
stop_write Write r r' w w' o cause low = (λ _. inl (cause.2 low), λ _. refl)
stop_write (TooLong line) r r' w w' o cause low = (λ five. absurd (omega (arith, five)), λ either. neither w w' o o cause.1 refl either)
stop_write TooMany r r' w w' o cause low = (λ five. absurd (omega (arith, five)), λ either. neither w w' o o cause.1 refl either)

-- a fault of the lines is the outcome
stop_reaches : (job : SplitJob) (files : Files) (old new : Outside) (fault : KeyFault) → IsSplitInto job files new.disk.files (Some fault) (λ lines. []) → Says old.err new.err (line_fault_message job.keys fault) → new.out.written ≡ old.out.written → Reaches old new (outcome_of job files) 8
stop_reaches job files old new fault split says out = record {
  outcome = splitting job files (lines_of (told_of job split.0)) (Some fault);
  is = outcome_is job files split.0 (Some fault) split.1 split.2;
  status_is = refl;
  out = out ∙ then_nothing old.out.written;
  err = says;
  files_are = split.3;
}

stop_outcome : (job : SplitJob) (files : Files) (old new : Outside) (stop : SplitStop) → LeavesFiles job files new.disk.files (Err stop) → Says old.err new.err (stop_message job stop) → new.out.written ≡ old.out.written
    → stop_status stop ≢ 4 → stop_status stop ≢ 5 → stop_status stop ≢ 6 → Reaches old new (outcome_of job files) (stop_status stop)
stop_outcome job files old new Memory left says out four five six = absurd (six refl)
stop_outcome job files old new Read left says out four five six = absurd (four refl)
stop_outcome job files old new Write left says out four five six = absurd (five refl)
stop_outcome job files old new (TooLong line) left says out four five six = stop_reaches job files old new (key_fault.TooLong line) left says out
stop_outcome job files old new TooMany left says out four five six = stop_reaches job files old new key_fault.TooMany left says out

-- what is left if the keys file isn't there
lacks_or : (job : SplitJob) (files : Files) (old new : Option Files) (status : ℕ) → old ≡ Some files → outcome_of job files ≡ None → (new ≡ Some files) ⊎ IsUnfinished job files status new → new ≡ old
lacks_or job files old new status known none (inl same) = same ∙ sym known
lacks_or job files old new status known none (inr part) = absurd (outcome_there job files part.bytes part.there none)

stop_lacks : (job : SplitJob) (files : Files) (old new : Outside) (stop : SplitStop) → old.disk.files ≡ Some files → LeavesFiles job files new.disk.files (Err stop) → new.out.written ≡ old.out.written → outcome_of job files ≡ None → LacksFile old new (stop_status stop)
stop_lacks job files old new Memory known left out none = record { status_is = inr refl; files_are = lacks_or job files old.disk.files new.disk.files 6 known none left; out = out }
stop_lacks job files old new Read known left out none = record { status_is = inl refl; files_are = lacks_or job files old.disk.files new.disk.files 4 known none left; out = out }
stop_lacks job files old new Write known left out none = absurd (outcome_there job files left.0.0 left.0.1 none)
stop_lacks job files old new (TooLong line) known left out none = absurd (outcome_there job files left.0 left.1 none)
stop_lacks job files old new TooMany known left out none = absurd (outcome_there job files left.0 left.1 none)

-- what is left after a file could not be read or written, or memory ran out
same_or : (job : SplitJob) (files : Files) (old new : Option Files) (status : ℕ) → old ≡ Some files → (new ≡ Some files) ⊎ IsUnfinished job files status new → (new ≡ old) ⊎ IsUnfinished job files status new
same_or job files old new status known (inl same) = inl (same ∙ sym known)
same_or job files old new status known (inr part) = inr part

stop_part : (job : SplitJob) (files : Files) (old new : Option Files) (stop : SplitStop) → old ≡ Some files → LeavesFiles job files new (Err stop) → (stop_status stop ≡ 4) ⊎ (stop_status stop ≡ 5) ⊎ (stop_status stop ≡ 6) → (new ≡ old) ⊎ IsUnfinished job files (stop_status stop) new
stop_part job files old new Memory known left either = same_or job files old new 6 known left
stop_part job files old new Read known left either = same_or job files old new 4 known left
stop_part job files old new Write known left either = same_or job files old new 5 known left.1
stop_part job files old new (TooLong line) known left either = absurd (omega (arith, either))
stop_part job files old new TooMany known left either = absurd (omega (arith, either))

-- the split stopped
pub stopped : (job : SplitJob) (old new : DiskState) (out err_old err_new : SinkState) (stop : SplitStop) (status : ℕ) → Left job old new (Err stop) → status ≡ stop_status stop → Says err_old err_new (stop_message job stop) → IsSent err_old err_new
    → Does (frame_of job) (outside old out err_old) (outside new out err_new) status
stopped job old new out err_old err_new stop status left is says sent = rw is (record {
  status = stop_listed job stop;
  read = stop_read stop _ _ _ _ left.cause;
  write = λ low. stop_write stop _ _ _ _ out.faults left.cause (low.disk tt);
  outcome = λ four five six files known. stop_outcome job files (outside old out err_old) (outside new out err_new) stop (left.leaves files known) says refl four five six;
  missing = λ files known none. stop_lacks job files (outside old out err_old) (outside new out err_new) stop known (left.leaves files known) refl none;
  unchanged = λ files known. stop_known stop;
  kept = λ lacks. absurd (false≢true (sym lacks ∙ stop_listed job stop));
  silent = λ _. refl;
  out = λ _. refl;
  unwritten = λ none. absurd (none tt);
  unspilled = λ _. left.spilled;
  left = λ either files known. stop_part job files old.files new.files stop known (left.leaves files known) either;
  sent = λ empty _. inl empty;
  err_sent = λ _. sent;
  err = (Err stop, refl, says);
})
