use Rattle.cm_io.specs.NotingLaws.{noted_first, noted_sent}
use Rattle.cm_tool_stops.specs.EndLaws.{says_all}
use Rattle.cm_shards_split.proofs.reporting.report_stop.Goals as goal

pub returns-clause-says : goal.returns-clause-says
returns-clause-says g c = says_all (noted_first c.new-notes.ensures.fresh c.explain.ensures.noted)

pub returns-clause-sent : goal.returns-clause-sent
returns-clause-sent g c = noted_sent (noted_first c.new-notes.ensures.fresh c.explain.ensures.noted) c.explain.ensures.sent
