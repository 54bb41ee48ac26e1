use Rattle.cm_judge.proofs.Promises.{printed, unjudged, unprinted}
use Rattle.cm_judge.proofs.driving.judge_job.Goals as goal

pub returns-in-Ok-print_verdict : goal.returns-in-Ok-print_verdict
returns-in-Ok-print_verdict g c =
    let made = c.judge_files.ensures in
    let wrote = c.in-Ok-print_verdict.ensures in
    record { judges = printed c.args.job.now _ _ _ _ _ c.in-Ok.verdict _ (record { files = made.files; spilled = made.spilled; write_faults = made.write_faults; cause = c.in-Ok.ensures.cause; ends = c.in-Ok.ensures.ends; numbers = tt }) c.status.ensures.status wrote.text wrote.cause.fine wrote.sent }

pub returns-in-Err-print_verdict : goal.returns-in-Err-print_verdict
returns-in-Err-print_verdict g c =
    let made = c.judge_files.ensures in
    let wrote = c.in-Err-print_verdict.ensures in
    let said = c.report_unwritten.ensures in
    record { judges = unprinted c.args.job.now _ _ _ _ _ _ c.in-Ok.verdict _ (record { files = made.files; spilled = made.spilled; write_faults = made.write_faults; cause = c.in-Ok.ensures.cause; ends = c.in-Ok.ensures.ends; numbers = tt }) said.status wrote.text wrote.cause.failed said.says said.sent }

pub returns-in-Err : goal.returns-in-Err
returns-in-Err g c =
    let made = c.judge_files.ensures in
    let said = c.report_stop.ensures in
    record { judges = unjudged c.args.job.now _ _ _ _ _ c.in-Err.stop _ (record { files = made.files; spilled = made.spilled; write_faults = made.write_faults; cause = c.in-Err.ensures.cause; ends = c.in-Err.ensures.ends; numbers = c.in-Err.ensures.numbers }) said.status said.says said.sent }
