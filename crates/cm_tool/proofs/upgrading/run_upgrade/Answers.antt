use Rattle.std.proofs.Common.{◌≡◌, ◌∙◌, Ok, Err, arith, inl, refl, sym}
use Rattle.cm_io.specs.States.{outside}
use Rattle.cm_tool.specs.Upgrading.{upgrade_frame}
use Rattle.cm_tool.proofs.Printing.{nothing_said}
use Rattle.cm_tool.proofs.Upgrades.{ends_at, may_leave, never_lacks, upgrade_done, upgrade_kept, upgrade_known, upgrade_lacks, upgrade_read, upgrade_status, upgrade_stopped, upgrade_write}
use Rattle.cm_tool_stops.specs.DoesLaws.{neither, unlisted}
use Rattle.cm_tool.proofs.upgrading.run_upgrade.Goals as goal

pub returns-in-Ok : goal.returns-in-Ok
returns-in-Ok g c =
    let job = c.args.job.now in
    let path : c.as_str.result.now ≡ job.function = c.as_str.ensures.bytes in
    let ends = rw path at c.in-Ok.ensures.ends in
    let cause = c.in-Ok.ensures.cause in
    let err = g.E.Sink.state c.args.err.now in
    record {
      upgrades = λ out. record {
        status = refl;
        read = λ low. (λ four. absurd (omega (arith, four)), λ rose. absurd (omega (arith, rose, cause.0)));
        write = λ low. (λ five. absurd (omega (arith, five)), λ either. neither _ _ out.faults out.faults cause.1 refl either);
        outcome = λ _ _ _ files is. upgrade_done job (outside (g.D.Disk.state c.args.disk.now) out err) (g.D.Disk.state c.upgrade_file.new.disk) err files ends (nothing_said err) is;
        missing = λ files is none. never_lacks job _ _ files ends is none;
        unchanged = λ files is seven. absurd (omega (arith, seven));
        kept = λ lacks. absurd (cc);
        silent = λ _. refl;
        out = λ _. refl;
        unwritten = λ none. absurd (none tt);
        unspilled = λ _. c.upgrade_file.ensures.spilled;
        left = λ either. absurd (omega (arith, either));
        sent = λ empty _. inl empty;
        err_sent = λ empty _. inl empty;
        err = (Ok tt, refl, nothing_said err);
      };
    }

pub returns-in-Err : goal.returns-in-Err
returns-in-Err g c =
    let job = c.args.job.now in
    let stop = c.in-Err.stop in
    let ends = ends_at (g.D.Disk.state c.args.disk.now).files (g.D.Disk.state c.upgrade_file.new.disk).files stop c.as_str.ensures.bytes c.in-Err.ensures.ends in
    let file : c.as_str-in-Err.result.now ≡ job.function = c.as_str-in-Err.ensures.bytes in
    let says = rw file at c.report_upgrade.ensures.says in
    let status = c.report_upgrade.ensures.status in
    let cause = c.in-Err.ensures.cause in
    let disk = g.D.Disk.state c.args.disk.now in
    let disk_now = g.D.Disk.state c.upgrade_file.new.disk in
    let err = g.E.Sink.state c.args.err.now in
    let err_now = g.E.Sink.state c.report_upgrade.new.err in
    record {
      upgrades = λ out. record {
        status = rw status (upgrade_status job stop);
        read = λ low. rw status (upgrade_read disk disk_now stop cause low);
        write = λ low. rw status (upgrade_write disk disk_now out.faults stop cause (low.disk tt));
        outcome = λ four five six files is. rw status (upgrade_stopped job (outside disk out err) disk_now err_now stop files ends says (rw status at four) (rw status at five) (rw status at six) is);
        missing = λ files is none. rw status (upgrade_lacks job (outside disk out err) disk_now err_now stop files ends is none);
        unchanged = λ files is seven. upgrade_known stop (sym status ∙ seven);
        kept = λ lacks. upgrade_kept job _ _ stop ends (rw status at (unlisted (upgrade_frame job).saves c.report_upgrade.result 5 lacks refl)) (rw status at (unlisted (upgrade_frame job).saves c.report_upgrade.result 6 lacks refl));
        silent = λ _. refl;
        out = λ _. refl;
        unwritten = λ none. absurd (none tt);
        unspilled = λ _. c.upgrade_file.ensures.spilled;
        left = λ _. rw status (may_leave job (outside disk out err) disk_now err_now stop ends says);
        sent = λ empty _. inl empty;
        err_sent = λ _. c.report_upgrade.ensures.sent;
        err = (Err stop, status, says);
      };
    }
