use Rattle.cm_shards_join.specs.JoinsLaws.{other_manifest, overwriting, unjoined}
use Rattle.cm_shards_join.proofs.driving.join_job.Goals as goal

pub returns-in-Ok-false : goal.returns-in-Ok-false
returns-in-Ok-false g c = record { joins = λ out. other_manifest c.args.job.now _ _ _ (c.in-Ok-false.ensures.others c.in-Ok-false.field-0-test) (c.join_functions.ensures.joins out) }

pub returns-in-Ok-true : goal.returns-in-Ok-true
returns-in-Ok-true g c =
    let said = c.report_overwriting.ensures in
    record { joins = λ out. overwriting c.args.job.now _ out _ _ _ (c.in-Ok-true.ensures.replaces c.in-Ok-true.field-0-test) said.status (rw c.as_str.ensures.bytes at said.says) said.sent }

pub returns-in-Err : goal.returns-in-Err
returns-in-Err g c =
    let said = c.report_stop.ensures in
    record { joins = λ out. rw said.status (unjoined c.args.job.now _ out _ _ said.says said.sent) }
