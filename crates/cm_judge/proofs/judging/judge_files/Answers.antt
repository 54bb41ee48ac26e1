use Rattle.std.proofs.Common.{◌≡◌, ◌∙◌}
use Rattle.cm_judge.proofs.judging.judge_files.Goals as goal
use Rattle.cm_witness_report.specs.Reading.{said_of}

pub returns-clause-ends : goal.returns-clause-ends
returns-clause-ends g c = λ files is.
    let path : c.as_str.result.now ≡ c.args.job.now.report = c.as_str.ensures.bytes in
    (said_of c.in-Ok.report, rw path at (c.in-Ok.ensures.loads files is), c.in-Err-judge_keys.ensures.ends files (c.in-Ok.ensures.files ∙ is))
