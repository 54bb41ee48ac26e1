use Rattle.std.proofs.Common.{◌∙◌, Ok, Err, arith, sym}
use Rattle.cm_io.specs.NotingLaws.{noted_first, noted_next, noted_sent}
use Rattle.cm_io.specs.States.{outside}
use Rattle.cm_shards_query.proofs.Ends.{cut_short, done, done_low, done_status, lacking, none_done, printed, says_more, stop_high, stop_known, stop_listed, stop_read, stop_silent, stop_write, stopped, tested}
use Rattle.cm_shards_query.proofs.driving.ask_job.Goals as goal
use Rattle.cm_tool_stops.specs.DoesLaws.{neither}
use Rattle.cm_tool_stops.specs.EndLaws.{says_all}

pub returns-in-Ok : goal.returns-in-Ok
returns-in-Ok g c =
    let job = c.args.job.now in
    let old = (outside (g.D.Disk.state c.args.disk.now) (g.O.Sink.state c.args.out.now) (g.E.Sink.state c.args.err.now)) in
    let new = (outside (g.D.Disk.state c.ask_files.new.disk) (g.O.Sink.state c.ask_files.new.out) (g.E.Sink.state c.ask_files.new.err)) in
    let left = c.in-Ok.ensures in
    let complete = c.in-Ok.complete in
    let status = c.status.ensures.status in
    let fresh = c.new-notes.ensures.fresh in
    let low = done_low complete in
    record {
      asks = record {
        does = record {
          status = rw status (done_status job complete);
          read = λ _. (λ four. absurd (omega (arith, status, low, four)), λ rose. absurd (omega (arith, left.cause.0, rose)));
          write = λ _. (λ five. absurd (omega (arith, status, low, five)), λ either. neither _ _ _ _ c.ask_files.ensures.disk.write_faults left.cause.1 either);
          outcome = λ _ _ _ files is.
              let told = left.told files is in
              rw status (done job files old new told.0 complete told.2 (says_more (noted_first fresh told.1)) (c.ask_files.ensures.disk.files ∙ is));
          missing = λ files is none. absurd (none_done job files _ complete (left.told files is).2 none);
          unchanged = λ files is seven. absurd (omega (arith, status, low, seven));
          kept = λ _. c.ask_files.ensures.disk.files;
          silent = λ lacks. absurd (printed job complete (rw status at lacks));
          out = λ none. absurd (cc);
          unwritten = λ _. c.ask_files.ensures.disk.write_faults;
          unspilled = λ _. c.ask_files.ensures.disk.spilled;
          left = λ either. absurd (omega (arith, status, low, either));
          sent = c.ask_files.ensures.out.sent;
          err_sent = λ empty. noted_sent (noted_first fresh c.ask_files.ensures.err.says.1) (c.ask_files.ensures.err.sent (λ _. empty));
          err = (Ok complete, record { notes = c.ask_files.ensures.err.says.0; status_is = status; says = says_more (noted_first fresh c.ask_files.ensures.err.says.1) });
        };
        truth = λ test _ files is. let told = left.told files is in rw status (tested job files _ complete test told.2);
      };
    }

pub returns-in-Err : goal.returns-in-Err
returns-in-Err g c =
    let job = c.args.job.now in
    let old = (outside (g.D.Disk.state c.args.disk.now) (g.O.Sink.state c.args.out.now) (g.E.Sink.state c.args.err.now)) in
    let new = (outside (g.D.Disk.state c.ask_files.new.disk) (g.O.Sink.state c.ask_files.new.out) (g.E.Sink.state c.report_stop.new.err)) in
    let left = c.in-Err.ensures in
    let stop = c.in-Err.stop in
    let status = c.report_stop.ensures.status in
    let fresh = c.new-notes.ensures.fresh in
    let noted = c.report_stop.ensures.noted in
    let high = stop_high stop in
    record {
      asks = record {
        does = record {
          status = rw status (stop_listed job stop);
          read = λ low. rw status (stop_read stop _ _ _ _ left.cause low);
          write = λ low. rw status (stop_write stop _ _ _ _ _ _ left.cause c.ask_files.ensures.disk.write_faults (low.out (λ none. absurd (cc))));
          outcome = λ four five six files is.
              let told = left.told files is in
              rw status (stopped job files old new told.0 stop told.2 (says_all (noted_next (noted_first fresh told.1) noted)) (rw status at four) (rw status at five) (rw status at six) (c.ask_files.ensures.disk.files ∙ is));
          missing = λ files is none.
              let told = left.told files is in
              rw status (lacking job files old new told.0 stop told.2 c.ask_files.ensures.disk.files none);
          unchanged = λ files is seven. stop_known stop (sym status ∙ seven);
          kept = λ _. c.ask_files.ensures.disk.files;
          silent = λ lacks. left.out.memory (stop_silent job stop (rw status at lacks));
          out = λ none. absurd (cc);
          unwritten = λ _. c.ask_files.ensures.disk.write_faults;
          unspilled = λ _. c.ask_files.ensures.disk.spilled;
          left = λ either files is.
              let told = left.told files is in
              rw status (cut_short job files old new told.0 stop told.2 (says_all (noted_next (noted_first fresh told.1) noted)) (rw status at either));
          sent = c.ask_files.ensures.out.sent;
          err_sent = λ _. noted_sent (noted_next (noted_first fresh c.ask_files.ensures.err.says.1) noted) c.report_stop.ensures.sent;
          err = (Err stop, record { notes = c.ask_files.ensures.err.says.0; status_is = status; says = says_all (noted_next (noted_first fresh c.ask_files.ensures.err.says.1) noted) });
        };
        truth = λ test either. absurd (omega (arith, status, high, either));
      };
    }
