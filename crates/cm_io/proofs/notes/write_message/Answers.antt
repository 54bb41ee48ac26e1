use Rattle.cm_io.specs.WritingLaws.{writes_nothing}
use Rattle.cm_io.proofs.notes.write_message.Goals as goal

pub returns-clause-bytes : goal.returns-clause-bytes
returns-clause-bytes g c = writes_nothing _ _ _ _ c.write.result c.in_ok-write_pieces.ensures.bytes c.write.ensures.bytes
