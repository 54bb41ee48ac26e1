use Rattle.std.proofs.Common.{◌≡◌}
use Rattle.cm_io.specs.NotingLaws.{noted_first}
use Rattle.cm_judge.proofs.reporting.report_stop.Goals as goal
use Rattle.cm_tool_stops.specs.EndLaws.{says_all}

pub returns-in-Report-clause-says : goal.returns-in-Report-clause-says
returns-in-Report-clause-says g c =
    let keys : c.as_str.result.now ≡ c.args.job.now.keys = c.as_str.ensures.bytes in
    let file : c.as_str-2.result.now ≡ c.args.job.now.report = c.as_str-2.ensures.bytes in
    rw c.in-Report.is (says_all (noted_first c.new-notes.ensures.fresh (rw (keys, file, c.stop_of_report.ensures.stop) at c.report_query.ensures.noted)))

pub returns-in-Keys-clause-says : goal.returns-in-Keys-clause-says
returns-in-Keys-clause-says g c =
    let keys : c.as_str.result.now ≡ c.args.job.now.keys = c.as_str.ensures.bytes in
    let file : c.as_str-2.result.now ≡ c.args.job.now.report = c.as_str-2.ensures.bytes in
    rw c.in-Keys.is (rw (keys, file, c.stop_of_judge.ensures.stop) at c.report.ensures.says)
