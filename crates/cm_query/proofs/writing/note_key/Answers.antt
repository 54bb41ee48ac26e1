use Rattle.cm_query.proofs.writing.note_key.Goals as goal

pub returns-in-None-clause-noted : goal.returns-in-None-clause-noted
returns-in-None-clause-noted g c = rw c.in-None.is c.note_unknown.ensures.noted
