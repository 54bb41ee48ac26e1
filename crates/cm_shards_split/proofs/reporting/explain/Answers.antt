use Rattle.std.proofs.Common.{◌≡◌}
use Rattle.cm_shards_split.proofs.reporting.explain.Goals as goal

pub returns-in-Read-clause-noted : goal.returns-in-Read-clause-noted
returns-in-Read-clause-noted g c =
    let keys : c.as_str-keys.result.now ≡ c.args.job.now.keys = c.as_str-keys.ensures.bytes in
    rw c.in-Read.is (rw keys at c.note_unread.ensures.noted)

pub returns-in-Write-clause-noted : goal.returns-in-Write-clause-noted
returns-in-Write-clause-noted g c = rw c.in-Write.is (rw c.as_str.ensures.bytes at c.note_unwritten.ensures.noted)

pub returns-in-TooLong-clause-noted : goal.returns-in-TooLong-clause-noted
returns-in-TooLong-clause-noted g c =
    let keys : c.as_str-keys.result.now ≡ c.args.job.now.keys = c.as_str-keys.ensures.bytes in
    rw c.in-TooLong.is (rw keys at c.note_long_line.ensures.noted)

pub returns-in-TooMany-clause-noted : goal.returns-in-TooMany-clause-noted
returns-in-TooMany-clause-noted g c =
    let keys : c.as_str-keys.result.now ≡ c.args.job.now.keys = c.as_str-keys.ensures.bytes in
    rw c.in-TooMany.is (rw keys at c.note_many_lines.ensures.noted)
