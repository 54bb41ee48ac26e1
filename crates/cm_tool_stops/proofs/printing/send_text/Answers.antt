use Rattle.cm_io.specs.WritingLaws.{writes_nothing}
use Rattle.cm_tool_stops.proofs.printing.send_text.Goals as goal

pub returns-in-Ok-clause-text : goal.returns-in-Ok-clause-text
returns-in-Ok-clause-text g c = λ text old wrote. writes_nothing old _ _ text c.write.result (rw c.in-Ok.is at wrote) c.write.ensures.bytes
