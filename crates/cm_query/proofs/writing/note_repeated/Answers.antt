use Rattle.std.proofs.Common.{rules, ◌≡◌}
use Rattle.std.specs.Prelude.{decimal}
use Rattle.cm_query.proofs.writing.note_repeated.Goals as goal

pub returns-clause-noted : goal.returns-clause-noted
returns-clause-noted g c =
    let line : c.as_bytes-line_digits.result.now ≡ decimal c.args.line = search rules in
    let number : c.as_bytes-digits.result.now ≡ decimal c.args.number = search rules in
    rw (line, number) at c.note_pieces.ensures.noted
