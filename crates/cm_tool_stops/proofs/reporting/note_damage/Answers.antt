use Rattle.std.proofs.Common.{rules, ◌≡◌}
use Rattle.std.specs.Prelude.{decimal}
use Rattle.cm_tool_stops.proofs.reporting.note_damage.Goals as goal

pub returns-clause-noted : goal.returns-clause-noted
returns-clause-noted g c =
    let one : c.as_bytes-offset_text.result.now ≡ decimal c.args.damage.offset = search rules in
    let two : c.as_bytes-expected_text.result.now ≡ decimal c.args.damage.expected = search rules in
    let three : c.as_bytes-found_text.result.now ≡ decimal c.args.damage.found = search rules in
    rw (one, two, three) at c.note_pieces.ensures.noted
