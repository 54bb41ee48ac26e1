use Rattle.cm_shards_files.proofs.reading.read_start.Goals as goal

pub returns-in-Ok-clause-begins : goal.returns-in-Ok-clause-begins
returns-in-Ok-clause-begins g c = λ files is.
    let opened = c.in_ok-reader.ensures.reader files is in
    record { bytes = opened.bytes; there = opened.there; first = c.in-Ok.ensures.prefix opened.bytes opened.tells }
