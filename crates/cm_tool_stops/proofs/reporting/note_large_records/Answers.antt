use Rattle.std.proofs.Common.{rules, ◌≡◌}
use Rattle.std.specs.Prelude.{decimal}
use Rattle.cm_tool_stops.proofs.reporting.note_large_records.Goals as goal

pub returns-clause-noted : goal.returns-clause-noted
returns-clause-noted g c =
    let number : c.as_bytes-text.result.now ≡ decimal c.args.line = search rules in
    rw number at c.note_pieces.ensures.noted
