use Rattle.cm_shards_join.proofs.reporting.explain.Goals as goal

pub returns-in-Read-clause-noted : goal.returns-in-Read-clause-noted
returns-in-Read-clause-noted g c = rw c.in-Read.is (rw c.as_str.ensures.bytes at c.note_unread.ensures.noted)

pub returns-in-BadName-clause-noted : goal.returns-in-BadName-clause-noted
returns-in-BadName-clause-noted g c = rw c.in-BadName.is (rw c.as_str-in-BadName.ensures.bytes at c.note_file.ensures.noted)

pub returns-in-BadDump-clause-noted : goal.returns-in-BadDump-clause-noted
returns-in-BadDump-clause-noted g c = rw c.in-BadDump.is (rw c.as_str-in-BadDump.ensures.bytes at c.note_bad_dump.ensures.noted)

pub returns-in-Another-clause-noted : goal.returns-in-Another-clause-noted
returns-in-Another-clause-noted g c = rw c.in-Another.is (rw c.as_str-in-Another.ensures.bytes at c.note_file-in-Another.ensures.noted)

pub returns-in-BadCounts-clause-noted : goal.returns-in-BadCounts-clause-noted
returns-in-BadCounts-clause-noted g c = rw c.in-BadCounts.is (rw c.as_str-in-BadCounts.ensures.bytes at c.note_line.ensures.noted)

pub returns-in-Write-clause-noted : goal.returns-in-Write-clause-noted
returns-in-Write-clause-noted g c = rw c.in-Write.is (rw c.as_str-in-Write.ensures.bytes at c.note_unwritten.ensures.noted)
