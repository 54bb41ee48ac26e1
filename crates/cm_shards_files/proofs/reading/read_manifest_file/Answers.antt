use Rattle.cm_shards_files.proofs.reading.read_manifest_file.Goals as goal

pub returns-in-Ok-clause-decides : goal.returns-in-Ok-clause-decides
returns-in-Ok-clause-decides g c = λ files is.
    let opened = c.in_ok-reader.ensures.reader files is in
    record { bytes = opened.bytes; there = opened.there; same = c.in-Ok.ensures.decides opened.bytes opened.tells }
