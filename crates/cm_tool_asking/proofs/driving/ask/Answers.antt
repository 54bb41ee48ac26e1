use Rattle.std.proofs.Common.{◌∙◌, Ok, Err, arith, sym}
use Rattle.cm_io.specs.NotingLaws.{noted_first, noted_next, noted_sent}
use Rattle.cm_io.specs.States.{outside}
use Rattle.cm_tool_asking.specs.Asking.{asking}
use Rattle.cm_tool_asking.proofs.Ends.{answered, cut_short, done, done_low, done_status, lacking, none_done, printed, refused, says_more, stop_high, stop_quiet, stop_read, stop_status, stop_write, stopped, unlisted_seven}
use Rattle.cm_tool_asking.proofs.driving.ask.Goals as goal
use Rattle.cm_tool_stops.specs.DoesLaws.{neither}
use Rattle.cm_tool_stops.specs.EndLaws.{says_all}

pub returns-in-Ok : goal.returns-in-Ok
returns-in-Ok g c =
    let a = asking c.args.files.now g.A.Asked.meaning g.A.Fault.Explained.message in
    let old = (outside (g.D.Disk.state c.args.disk.now) (g.O.Sink.state c.args.out.now) (g.E.Sink.state c.args.err.now)) in
    let new = (outside (g.D.Disk.state c.ask_file.new.disk) (g.O.Sink.state c.ask_file.new.out) (g.E.Sink.state c.ask_file.new.err)) in
    let left = c.in-Ok.ensures in
    let complete = c.in-Ok.complete in
    let status = c.status.ensures.status in
    let fresh = c.new-notes.ensures.fresh in
    let low = done_low complete in
    record {
      asks = record {
        does = record {
          status = rw status (done_status a complete);
          read = λ _. (λ four. absurd (omega (arith, status, low, four)), λ rose. absurd (omega (arith, left.cause.0, rose)));
          write = λ _. (λ five. absurd (omega (arith, status, low, five)), λ either. neither _ _ _ _ c.ask_file.ensures.write_faults left.cause.1 either);
          outcome = λ _ _ _ files is.
              let told = left.told files is in
              rw status (done a files old new told.0 complete told.2 (says_all (noted_first fresh told.1)) (c.ask_file.ensures.files ∙ is));
          missing = λ files is none. absurd (none_done a files _ complete (left.told files is).2 none);
          unchanged = λ files is seven. absurd (omega (arith, status, low, seven));
          kept = λ _. c.ask_file.ensures.files;
          silent = λ lacks. absurd (printed a complete (rw status at lacks));
          out = λ none. absurd (cc);
          unwritten = λ _. c.ask_file.ensures.write_faults;
          unspilled = λ _. c.ask_file.ensures.spilled;
          left = λ either. absurd (omega (arith, status, low, either));
          sent = c.ask_file.ensures.sent;
          err_sent = λ empty. noted_sent (noted_first fresh left.says.1) (c.ask_file.ensures.notes_sent (λ _. empty));
          err = (Ok complete, record { notes = left.says.0; status_is = status; says = says_more (noted_first fresh left.says.1) });
        };
        answered = λ _ files is. let told = left.told files is in rw status (answered a files old new told.0 complete told.2);
        refused = λ three. absurd (omega (arith, status, low, three));
      };
    }

pub returns-in-Err : goal.returns-in-Err
returns-in-Err g c =
    let a = asking c.args.files.now g.A.Asked.meaning g.A.Fault.Explained.message in
    let old = (outside (g.D.Disk.state c.args.disk.now) (g.O.Sink.state c.args.out.now) (g.E.Sink.state c.args.err.now)) in
    let new = (outside (g.D.Disk.state c.ask_file.new.disk) (g.O.Sink.state c.ask_file.new.out) (g.E.Sink.state c.report_query.new.err)) in
    let left = c.in-Err.ensures in
    let stop = c.in-Err.stop in
    let status = c.report_query.ensures.status in
    let fresh = c.new-notes.ensures.fresh in
    let noted = c.report_query.ensures.noted in
    record {
      asks = record {
        does = record {
          status = rw status (stop_status a stop);
          read = λ low. rw status (stop_read stop _ _ _ _ left.cause low);
          write = λ low. rw status (stop_write stop _ _ _ _ _ _ left.cause c.ask_file.ensures.write_faults (low.out (λ none. absurd (cc))));
          outcome = λ four five six files is.
              let told = left.told files is in
              rw status (stopped a files old new told.0 stop told.2 (says_all (noted_next (noted_first fresh told.1) noted)) (rw status at four) (rw status at five) (rw status at six) (c.ask_file.ensures.files ∙ is));
          missing = λ files is none.
              let told = left.told files is in
              rw status (lacking a files old new told.0 stop told.2 c.ask_file.ensures.files none);
          unchanged = λ files is. unlisted_seven a stop c.report_query.result status;
          kept = λ _. c.ask_file.ensures.files;
          silent = λ lacks. stop_quiet a stop _ _ left.out (rw status at lacks);
          out = λ none. absurd (cc);
          unwritten = λ _. c.ask_file.ensures.write_faults;
          unspilled = λ _. c.ask_file.ensures.spilled;
          left = λ either files is.
              let told = left.told files is in
              rw status (cut_short a files old new told.0 stop told.2 (says_all (noted_next (noted_first fresh told.1) noted)) (rw status at either));
          sent = c.ask_file.ensures.sent;
          err_sent = λ _. noted_sent (noted_next (noted_first fresh left.says.1) noted) c.report_query.ensures.sent;
          err = (Err stop, record { notes = left.says.0; status_is = status; says = says_all (noted_next (noted_first fresh left.says.1) noted) });
        };
        answered = λ either. stop_high stop (rw status at either);
        refused = λ three files is. let told = left.told files is in refused a files old new told.0 stop told.2 (sym status ∙ three);
      };
    }
