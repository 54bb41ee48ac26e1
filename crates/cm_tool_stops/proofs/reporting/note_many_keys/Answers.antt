use Rattle.std.proofs.Common.{rules, ◌≡◌}
use Rattle.std.specs.Prelude.{decimal}
use Rattle.cm_spec.specs.declared.limits.TheConstants.{MAX_KEYS}
use Rattle.cm_tool_stops.proofs.reporting.note_many_keys.Goals as goal

pub returns-clause-noted : goal.returns-clause-noted
returns-clause-noted g c =
    let number : c.as_bytes-text.result.now ≡ decimal MAX_KEYS = search rules in
    rw number at c.note_pieces.ensures.noted
