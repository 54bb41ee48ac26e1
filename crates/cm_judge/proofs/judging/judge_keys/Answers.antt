use Rattle.std.proofs.Common.{◌≡◌}
use Rattle.cm_io.specs.declared.key_pass.TheConstants.{MAX_KEY_LEN}
use Rattle.cm_judge.proofs.Steps.{ends_keys, lines_rise}
use Rattle.cm_judge.proofs.judging.judge_keys.Goals as goal
use Rattle.cm_spec.specs.declared.limits.TheConstants.{MAX_KEYS}
use Rattle.cm_witness_report.specs.Reading.{said_of}

pub returns-clause-ends : goal.returns-clause-ends
returns-clause-ends g c = λ files is.
    let job = c.args.job.now in
    let path : c.as_str.result.now ≡ job.keys = c.as_str.ensures.bytes in
    let opened = rw path at (c.in-Ok.ensures.reader files is) in
    let rise = lines_rise (c.numbering.ensures.numbered MAX_KEYS MAX_KEY_LEN job.end job.first opened.bytes) in
    ends_keys c.holds_if_true.ensures job (said_of c.args.report.now) files opened.bytes _ _ c.judge-judged.result c.requires.report rise opened.there opened.tells c.new-keys.ensures.told c.judge-judged.ensures.some c.judge-judged.ensures.verdict c.judge-judged.ensures.fault
