use Rattle.std.proofs.Common.{rules, ◌≡◌}
use Rattle.std.specs.Prelude.{decimal}
use Rattle.cm_query.proofs.writing.note_unknown.Goals as goal

pub returns-clause-noted : goal.returns-clause-noted
returns-clause-noted g c =
    let digits : c.as_bytes-line_digits.result.now ≡ decimal c.args.line = search rules in
    rw digits at c.note_pieces.ensures.noted
