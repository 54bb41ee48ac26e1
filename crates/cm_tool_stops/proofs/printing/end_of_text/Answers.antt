use Rattle.cm_tool_stops.proofs.Prints.{front_of}
use Rattle.cm_tool_stops.proofs.printing.end_of_text.Goals as goal

pub returns-in-Ok-clause-front : goal.returns-in-Ok-clause-front
returns-in-Ok-clause-front g c = λ text old wrote. front_of c.send_text.result old (g.O.Sink.state c.send_text.new.out).written text (c.send_text.ensures.text text old wrote)

pub returns-in-Err-clause-front : goal.returns-in-Err-clause-front
returns-in-Err-clause-front g c = λ text old wrote. front_of c.send_text.result old (g.O.Sink.state c.send_text.new.out).written text (c.send_text.ensures.text text old wrote)
