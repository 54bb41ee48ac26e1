use Rattle.std.proofs.Common.{◌∙◌, Ok, Err, arith, refl, sym}
use Rattle.cm_io.specs.States.{outside}
use Rattle.cm_tool_building.specs.Building.{building}
use Rattle.cm_tool_building.specs.Builds.{frame_of}
use Rattle.cm_tool_building.specs.StopLaws.{stop_failed, stop_read, stop_write}
use Rattle.cm_tool_stops.specs.DoesLaws.{neither, unlisted}
use Rattle.cm_tool_building.proofs.Ends.{finished, may_leave, missing, none_made, outcome_saving, refused_with, stop_kept, stop_known, stop_quiet, stop_status, stopped}
use Rattle.cm_tool_building.proofs.driving.build.Goals as goal

pub returns-in-Ok : goal.returns-in-Ok
returns-in-Ok g c =
    let b = building c.args.files.now (g.B.Builder.meaning c.args.builder.now) g.B.Made.Saved.bytes in
    let made = c.in-Ok.made in
    let left = c.in-Ok.ensures in
    let says = c.say.ensures.says in
    let old = (outside (g.D.Disk.state c.args.disk.now) (g.O.Sink.state c.args.out.now) (g.E.Sink.state c.args.err.now)) in
    let new = (outside (g.D.Disk.state c.build_file.new.disk) (g.O.Sink.state c.build_file.new.out) (g.E.Sink.state c.say.new.err)) in
    record {
      builds = record {
        does = record {
          status = refl;
          read = λ low. (λ four. absurd (omega (arith, four)), λ rose. absurd (omega (arith, left.cause.0, rose)));
          write = λ low. (λ five. absurd (omega (arith, five)), λ either. neither _ _ _ _ left.cause.1 left.out_cause either);
          outcome = λ _ _ _ files is. finished b old new made files left.leaves left.out says is;
          missing = λ files is none. absurd (none_made b files made (left.leaves.1 files is) none);
          unchanged = λ files is seven. absurd (omega (arith, seven));
          kept = λ lacks. absurd (cc);
          silent = λ _. left.out;
          out = λ none. absurd (cc);
          unwritten = λ none. absurd (none tt);
          unspilled = c.build_file.ensures.unspilled;
          left = λ either. absurd (omega (arith, either));
          sent = c.build_file.ensures.sent;
          err_sent = c.say.ensures.sent;
          err = (Ok made, record { form = tt; out_cause = left.out_cause; status_is = refl; says = says });
        };
        saved = λ _ files is. (made, outcome_saving b files made (left.leaves.1 files is), left.makes files is);
        refused = λ one. absurd (omega (arith, one));
      };
    }

pub returns-in-Err : goal.returns-in-Err
returns-in-Err g c =
    let b = building c.args.files.now (g.B.Builder.meaning c.args.builder.now) g.B.Made.Saved.bytes in
    let stop = c.in-Err.stop in
    let left = c.in-Err.ensures in
    let status = c.report.ensures.status in
    let says = c.report.ensures.says in
    let old = (outside (g.D.Disk.state c.args.disk.now) (g.O.Sink.state c.args.out.now) (g.E.Sink.state c.args.err.now)) in
    let new = (outside (g.D.Disk.state c.build_file.new.disk) (g.O.Sink.state c.build_file.new.out) (g.E.Sink.state c.report.new.err)) in
    record {
      builds = record {
        does = record {
          status = rw status (stop_status b stop);
          read = λ low. rw status (stop_read stop _ _ _ _ left.cause low);
          write = λ low. rw status (stop_write stop _ _ _ _ _ _ left.cause left.out_cause (low.disk tt) (low.out (λ none. absurd (cc))));
          outcome = λ four five six files is. rw status (stopped b old new stop files left.leaves left.out says (rw status at four) (rw status at five) (rw status at six) is);
          missing = λ files is none. rw status (missing b old new stop files left.leaves left.out is none);
          unchanged = λ files is seven. stop_known b _ _ _ _ stop files left.leaves is (sym status ∙ seven);
          kept = λ lacks. stop_kept b _ _ _ _ stop left.leaves (rw status at (unlisted (frame_of b).saves c.report.result 5 lacks refl)) (rw status at (unlisted (frame_of b).saves c.report.result 6 lacks refl));
          silent = λ lacks. stop_quiet _ _ stop left.out (rw status at (unlisted (frame_of b).prints c.report.result 1 lacks refl)) (rw status at (unlisted (frame_of b).prints c.report.result 5 lacks refl));
          out = λ none. absurd (cc);
          unwritten = λ none. absurd (none tt);
          unspilled = c.build_file.ensures.unspilled;
          left = λ _. rw status (may_leave b old new stop left.leaves left.out left.form left.out_cause says);
          sent = c.build_file.ensures.sent;
          err_sent = λ _. c.report.ensures.sent;
          err = (Err stop, record { form = left.form; out_cause = left.out_cause; status_is = status; says = says });
        };
        saved = λ zero. stop_failed stop (sym status ∙ zero);
        refused = λ one files is. refused_with b _ _ _ _ stop files left.leaves is (sym status ∙ one);
      };
    }
