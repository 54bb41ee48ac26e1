use Rattle.cm_shards_query.proofs.reporting.explain_load.Goals as goal

pub returns-in-BadFunction-clause-noted : goal.returns-in-BadFunction-clause-noted
returns-in-BadFunction-clause-noted g c = rw c.in-BadFunction.is (rw c.as_str-in-BadFunction.ensures.bytes at c.note_bad_dump.ensures.noted)

pub returns-in-Another-clause-noted : goal.returns-in-Another-clause-noted
returns-in-Another-clause-noted g c = rw c.in-Another.is (rw c.as_str-in-Another.ensures.bytes at c.note_file.ensures.noted)
