use Rattle.cm_store_file.proofs.reader.read_index.Goals as goal

pub returns-clause-cause : goal.returns-clause-cause
returns-clause-cause g c = rw c.in_ok-bytes.ensures.cause (c.index_of.ensures.cause _)
