use Rattle.cm_shards_join.proofs.Promises.{saved, unsaved}
use Rattle.cm_shards_join.proofs.driving.join_functions.Goals as goal

pub returns-in-Ok : goal.returns-in-Ok
returns-in-Ok g c =
    let made = c.join_files.ensures in
    record { joins = λ out. saved c.args.job.now _ _ out _ (record { spilled = made.spilled; cause = c.in-Ok.ensures.cause; leaves = c.in-Ok.ensures.leaves }) }

pub returns-in-Err : goal.returns-in-Err
returns-in-Err g c =
    let made = c.join_files.ensures in
    let said = c.report_stop.ensures in
    record { joins = λ out. unsaved c.args.job.now _ _ out _ _ c.in-Err.stop _ (record { spilled = made.spilled; cause = c.in-Err.ensures.cause; leaves = c.in-Err.ensures.leaves }) said.status said.says said.sent }
