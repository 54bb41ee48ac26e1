use Rattle.std.proofs.Common.{arith, refl}
use Rattle.cm_tool.proofs.plan.plan_of.Goals as goal

pub returns-clause-plan : goal.returns-clause-plan
returns-clause-plan c = refl

pub returns-clause-valid : goal.returns-clause-valid
returns-clause-valid c =
    let numbers = c.requires.job.numbers in
    record { ratio = numbers.ratio; sampling = numbers.sampling; width = numbers.width; buffer = (omega (arith, numbers.buffer.0), numbers.buffer.1) }
