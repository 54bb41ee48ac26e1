use Rattle.std.proofs.Common.{◌∙◌, ◌+◌, arith}
use Rattle.cm_keys_made.proofs.DigitLemmas.{drop_later}
use Rattle.cm_keys_made.proofs.lines.write_digits.Goals as goal

pub returns-clause-after : goal.returns-clause-after
returns-clause-after c =
    let at = c.args.at in
    drop_later c.write_pair-5.new.buf c.write_pair-4.new.buf (at + 8 + 2) (at + 10) (omega arith) c.write_pair-5.ensures.after
    ∙ drop_later c.write_pair-4.new.buf c.write_pair-3.new.buf (at + 6 + 2) (at + 10) (omega arith) c.write_pair-4.ensures.after
    ∙ drop_later c.write_pair-3.new.buf c.write_pair-2.new.buf (at + 4 + 2) (at + 10) (omega arith) c.write_pair-3.ensures.after
    ∙ drop_later c.write_pair-2.new.buf c.write_pair.new.buf (at + 2 + 2) (at + 10) (omega arith) c.write_pair-2.ensures.after
    ∙ drop_later c.write_pair.new.buf c.args.buf.now (at + 2) (at + 10) (omega arith) c.write_pair.ensures.after
