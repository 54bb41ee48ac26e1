use Rattle.cm_io.specs.NotingLaws.{noted_first, noted_sent}
use Rattle.cm_tool_stops.specs.EndLaws.{says_all}
use Rattle.cm_tool_stops.proofs.reporting.say.Goals as goal

pub returns : goal.returns
returns g c =
    let noted = noted_first c.new-notes.ensures.fresh c.note_pieces.ensures.noted in
    record { says = says_all noted; sent = noted_sent noted c.note_pieces.ensures.sent }
