use Rattle.cm_tool_stops.proofs.reporting.explain_usage.Goals as goal

pub returns-in-Memory-clause-says : goal.returns-in-Memory-clause-says
returns-in-Memory-clause-says g c = rw c.in-Memory.is c.say.ensures.says

pub returns-in-Words-clause-says : goal.returns-in-Words-clause-says
returns-in-Words-clause-says g c = rw c.in-Words.is c.say-in-Words.ensures.says

pub returns-in-BadValue-clause-says : goal.returns-in-BadValue-clause-says
returns-in-BadValue-clause-says g c = rw c.in-BadValue.is c.say-in-BadValue.ensures.says

pub returns-in-NoFile-clause-says : goal.returns-in-NoFile-clause-says
returns-in-NoFile-clause-says g c = rw c.in-NoFile.is c.say-in-NoFile.ensures.says
