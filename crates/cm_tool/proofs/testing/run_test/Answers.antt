use Rattle.std.proofs.Common.{◌∙◌, Ok, Err, arith, inl, refl, sym}
use Rattle.std.proofs.lemmas.Bool.{false≢true}
use Rattle.cm_io.specs.States.{outside}
use Rattle.cm_tool.specs.Tested.{test_outcome}
use Rattle.cm_tool.proofs.Printing.{nothing_said}
use Rattle.cm_tool.proofs.Tests.{last_spilled, may_leave, never_changed, test_done, test_known, test_status, test_stopped, written_or_short}
use Rattle.cm_tool_building.specs.StopLaws.{stop_failed, stop_write}
use Rattle.cm_tool_stops.specs.DoesLaws.{neither, no_read}
use Rattle.cm_tool.proofs.testing.run_test.Goals as goal

pub returns-in-Ok : goal.returns-in-Ok
returns-in-Ok g c =
    let job = c.args.job.now in
    let old = outside (g.D.Disk.state c.args.disk.now) (g.O.Sink.state c.args.out.now) (g.E.Sink.state c.args.err.now) in
    let new = outside (g.D.Disk.state c.test_each.new.disk) (g.O.Sink.state c.test_each.new.out) (g.E.Sink.state c.args.err.now) in
    let left = c.in-Ok.ensures in
    record {
      tests = record {
        does = record {
          status = refl;
          read = λ _. no_read old new 0 (λ four. absurd (omega (arith, four))) c.test_each.ensures.read_faults;
          write = λ _. (λ five. absurd (omega (arith, five)), λ either. neither _ _ _ _ left.cause.1 left.out_cause either);
          outcome = λ _ _ _ files is. test_done job files (g.D.Disk.state c.args.disk.now) (g.D.Disk.state c.test_each.new.disk) (g.O.Sink.state c.args.out.now) (g.O.Sink.state c.test_each.new.out) (g.E.Sink.state c.args.err.now) (left.ends files is) (c.test_each.ensures.files ∙ is);
          missing = λ files is none. absurd (cc);
          unchanged = λ files is seven. absurd (omega (arith, seven));
          kept = λ _. c.test_each.ensures.files;
          silent = λ lacks. absurd (cc);
          out = λ none. absurd (cc);
          unwritten = λ none. absurd (none tt);
          unspilled = λ none. absurd (none tt);
          left = λ either. absurd (omega (arith, either));
          sent = c.test_each.ensures.sent;
          err_sent = λ empty _. inl empty;
          err = (Ok tt, record { form = tt; out_cause = left.out_cause; status_is = refl; says = nothing_said _ });
        };
        spilled = λ _ files is. last_spilled job _ _ (left.spilled files is);
      };
    }

pub returns-in-Err : goal.returns-in-Err
returns-in-Err g c =
    let job = c.args.job.now in
    let old = outside (g.D.Disk.state c.args.disk.now) (g.O.Sink.state c.args.out.now) (g.E.Sink.state c.args.err.now) in
    let new = outside (g.D.Disk.state c.test_each.new.disk) (g.O.Sink.state c.test_each.new.out) (g.E.Sink.state c.report.new.err) in
    let left = c.in-Err.ensures in
    let stop = c.in-Err.stop in
    let form = left.form in
    let status = c.report.ensures.status in
    let says = rw c.as_str.ensures.bytes at c.report.ensures.says in
    record {
      tests = record {
        does = record {
          status = rw status (test_status job form.0 stop form.1);
          read = λ _. rw status (no_read old new _ (test_known form.0 stop form.1) c.test_each.ensures.read_faults);
          write = λ low. rw status (stop_write stop _ _ _ _ _ _ left.cause left.out_cause (low.disk tt) (low.out (λ none. absurd (cc))));
          outcome = λ _ five six files is. rw status (test_stopped job files stop old new (left.ends files is) says (rw status at five) (rw status at six) (c.test_each.ensures.files ∙ is));
          missing = λ files is none. absurd (cc);
          unchanged = λ files is. rw status ((never_changed (test_outcome job files) _ _ stop (left.ends files is)).0);
          kept = λ _. c.test_each.ensures.files;
          silent = λ lacks. absurd (false≢true (sym (rw status at lacks) ∙ test_status job form.0 stop form.1));
          out = λ none. absurd (cc);
          unwritten = λ none. absurd (none tt);
          unspilled = λ none. absurd (none tt);
          left = λ either. rw status (may_leave job old new stop left.ends left.spilling left.out_cause says (written_or_short form.0 stop form.1 (rw status at either)));
          sent = c.test_each.ensures.sent;
          err_sent = λ _. c.report.ensures.sent;
          err = (Err stop, record { form = form; out_cause = left.out_cause; status_is = status; says = says });
        };
        spilled = λ zero. stop_failed stop (sym status ∙ zero);
      };
    }
