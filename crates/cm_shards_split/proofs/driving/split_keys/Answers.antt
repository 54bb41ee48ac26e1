use Rattle.std.proofs.Common.{refl}
use Rattle.cm_shards_split.proofs.Promises.{stopped, whole}
use Rattle.cm_shards_split.proofs.driving.split_keys.Goals as goal

pub returns-in-Ok : goal.returns-in-Ok
returns-in-Ok g c =
    let made = c.split_files.ensures in
    let done = c.in-Ok.ensures in
    record { splits = λ out. whole c.args.job.now _ _ out _ 0 (record { spilled = made.spilled; cause = done.cause; leaves = done.leaves }) refl }

pub returns-in-Err : goal.returns-in-Err
returns-in-Err g c =
    let made = c.split_files.ensures in
    let done = c.in-Err.ensures in
    let said = c.report_stop.ensures in
    record { splits = λ out. stopped c.args.job.now _ _ out _ _ c.in-Err.stop _ (record { spilled = made.spilled; cause = done.cause; leaves = done.leaves }) said.status said.says said.sent }
