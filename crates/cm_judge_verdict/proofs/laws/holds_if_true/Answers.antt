use Rattle.cm_judge_verdict.proofs.Law as law
use Rattle.cm_judge_verdict.proofs.laws.holds_if_true.Goals as goal

pub returns : goal.returns
returns c = law.holds_if_true
