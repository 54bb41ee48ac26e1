use Rattle.std.proofs.Common.{◌≡◌}
use Rattle.cm_io.specs.NotingLaws.{noted_first, noted_sent}
use Rattle.cm_tool_stops.specs.EndLaws.{says_all}
use Rattle.cm_tool_stops.proofs.reporting.report.Goals as goal

pub returns-clause-says : goal.returns-clause-says
returns-clause-says g c =
    let dir : c.as_bytes.result.now ≡ c.args.dir.now = c.as_bytes.ensures.value in
    says_all (noted_first c.new-notes.ensures.fresh (rw dir at c.explain.ensures.noted))

pub returns-clause-sent : goal.returns-clause-sent
returns-clause-sent g c = noted_sent (noted_first c.new-notes.ensures.fresh c.explain.ensures.noted) c.explain.ensures.sent
