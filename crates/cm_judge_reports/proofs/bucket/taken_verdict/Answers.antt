use Rattle.std.proofs.Common.{None, refl}
use Rattle.cm_judge_reports.proofs.bucket.taken_verdict.Goals as goal

pub returns-in-Ok : goal.returns-in-Ok
returns-in-Ok g c = record { verdict = c.in-Ok.ensures.verdict (record { keys = c.args.taken.now.keys; fault = None }) refl }
