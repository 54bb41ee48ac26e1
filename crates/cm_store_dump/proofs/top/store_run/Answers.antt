use Rattle.std.proofs.Common.{map}
use Rattle.std.specs.Prelude.{string_bytes}
use Rattle.cm_store_dump.proofs.Usage.{refused}
use Rattle.cm_store_dump.proofs.top.store_run.Goals as goal
use Rattle.cm_store_words.specs.Meaning.{job_of}

pub returns-in-Err : goal.returns-in-Err
returns-in-Err g c =
    let said = c.report_usage.ensures in
    record { runs = refused (job_of (map string_bytes c.args.words.now)) c.in-Err.fault _ _ _ _ _ c.in-Err.ensures.fault said.status said.says said.sent }
