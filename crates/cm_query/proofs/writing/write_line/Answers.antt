use Rattle.cm_io.specs.WritingLaws.{writes_nothing}
use Rattle.cm_query.specs.Texts.{line_of}
use Rattle.cm_query.proofs.writing.write_line.Goals as goal

pub returns-then-sends-clause-line : goal.returns-then-sends-clause-line
returns-then-sends-clause-line g c = writes_nothing _ _ _ (line_of c.args.end c.args.key.now c.args.number) c.write.result c.in_ok-put_line.ensures.line c.write.ensures.bytes
