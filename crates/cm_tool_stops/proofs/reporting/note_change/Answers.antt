use Rattle.std.proofs.Common.{rules, ◌≡◌}
use Rattle.std.specs.Prelude.{decimal}
use Rattle.cm_tool_stops.proofs.reporting.note_change.Goals as goal

pub returns-clause-noted : goal.returns-clause-noted
returns-clause-noted g c =
    let one : c.as_bytes-first_text.result.now ≡ decimal c.args.first = search rules in
    let two : c.as_bytes-again_text.result.now ≡ decimal c.args.again = search rules in
    rw (one, two) at c.note_pieces.ensures.noted
