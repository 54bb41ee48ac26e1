use Rattle.std.specs.Option.{option_map}
use Rattle.cm_io.specs.WritingLaws.{writes_nothing}
use Rattle.cm_store_values.specs.Written.{line_with}
use Rattle.cm_store_values.proofs.lines.write_line.Goals as goal

pub returns-then-sends-clause-line : goal.returns-then-sends-clause-line
returns-then-sends-clause-line g c = writes_nothing _ _ _ (line_with c.args.end c.args.key.now (option_map (λ bytes. bytes.now) c.args.value)) c.write.result c.in_ok-put_line.ensures.line c.write.ensures.bytes
