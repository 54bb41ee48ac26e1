use Rattle.cm_io.specs.NotingLaws.{noted_first, noted_sent}
use Rattle.cm_tool_stops.specs.EndLaws.{says_all}
use Rattle.cm_shards_words.proofs.noting.report_overwriting.Goals as goal

pub returns-clause-says : goal.returns-clause-says
returns-clause-says g c = says_all (noted_first c.new-notes.ensures.fresh c.note_file.ensures.noted)

pub returns-clause-sent : goal.returns-clause-sent
returns-clause-sent g c = noted_sent (noted_first c.new-notes.ensures.fresh c.note_file.ensures.noted) c.note_file.ensures.sent
