use Rattle.cm_shards_split.specs.SplitsLaws.{other_keys, overwriting, unsplit}
use Rattle.cm_shards_split.proofs.driving.split_job.Goals as goal

pub returns-in-Ok-false : goal.returns-in-Ok-false
returns-in-Ok-false g c = record { splits = λ out. other_keys c.args.job.now _ _ _ (c.in-Ok-false.ensures.others c.in-Ok-false.field-0-test) (c.split_keys.ensures.splits out) }

pub returns-in-Ok-true : goal.returns-in-Ok-true
returns-in-Ok-true g c =
    let said = c.report_overwriting.ensures in
    record { splits = λ out. overwriting c.args.job.now _ out _ _ _ (c.in-Ok-true.ensures.made c.in-Ok-true.field-0-test) said.status (rw c.as_str.ensures.bytes at said.says) said.sent }

pub returns-in-Err : goal.returns-in-Err
returns-in-Err g c =
    let said = c.report_stop.ensures in
    record { splits = λ out. rw said.status (unsplit c.args.job.now _ out _ _ said.says said.sent) }
