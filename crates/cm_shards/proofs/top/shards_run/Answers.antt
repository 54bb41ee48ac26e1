use Rattle.std.proofs.Common.{map}
use Rattle.std.specs.Prelude.{string_bytes}
use Rattle.cm_shards.proofs.Usage.{asked_for, refused}
use Rattle.cm_shards.proofs.top.shards_run.Goals as goal
use Rattle.cm_shards_words.specs.Meaning.{job_of}

pub returns-in-Ok-Split : goal.returns-in-Ok-Split
returns-in-Ok-Split g c = record { runs = asked_for _ _ _ c.in-Ok-Split.ensures.job c.in-Ok-Split.field-0-is (c.split_job.ensures.splits _) }

pub returns-in-Ok-Join : goal.returns-in-Ok-Join
returns-in-Ok-Join g c = record { runs = asked_for _ _ _ c.in-Ok-Join.ensures.job c.in-Ok-Join.field-0-is (c.join_job.ensures.joins _) }

pub returns-in-Err : goal.returns-in-Err
returns-in-Err g c =
    let said = c.report_usage.ensures in
    record { runs = refused (job_of (map string_bytes c.args.words.now)) c.in-Err.fault _ _ _ _ _ c.in-Err.ensures.fault said.status said.says said.sent }
