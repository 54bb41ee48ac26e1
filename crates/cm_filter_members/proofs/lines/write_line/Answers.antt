use Rattle.cm_filter_members.specs.Written.{line_if}
use Rattle.cm_io.specs.WritingLaws.{writes_nothing}
use Rattle.cm_filter_members.proofs.lines.write_line.Goals as goal

pub returns-then-sends-clause-line : goal.returns-then-sends-clause-line
returns-then-sends-clause-line g c = writes_nothing _ _ _ (line_if c.args.holds c.args.end c.args.key.now) c.write.result c.in_ok-put_line.ensures.line c.write.ensures.bytes
