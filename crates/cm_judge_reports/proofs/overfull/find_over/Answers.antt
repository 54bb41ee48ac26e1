use Rattle.cm_judge_reports.proofs.Lowest.{none_overfull}
use Rattle.cm_judge_reports.proofs.overfull.find_over.Goals as goal

pub returns-in-Ok-clause-none : goal.returns-in-Ok-clause-none
returns-in-Ok-clause-none g c = λ told is. none_overfull told.keys c.args.buckets c.args.split c.in-Ok.field-0.seed ((rw c.in-Ok.is at c.in_ok-choose_split.ensures.first) told is)

pub returns-clause-lowest : goal.returns-clause-lowest
returns-clause-lowest g c = λ told is. ((rw c.in-Err.is at c.in_ok-choose_split.ensures.none) told is).1
