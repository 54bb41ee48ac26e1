use Rattle.std.proofs.Common.{refl}
use Rattle.cm_io.specs.declared.fault.DiskFault.TheVariants as disk_fault
use Rattle.cm_shards_split.proofs.Finished.{all_written, rest_left}
use Rattle.cm_shards_split.specs.Leaves.{plan_of}
use Rattle.cm_shards_split.specs.declared.stop.SplitStop.TheVariants.{Memory, Write}
use Rattle.cm_shards_split.proofs.finishing.write_rest.Goals as goal

pub returns-in-Ok-clause-leaves : goal.returns-in-Ok-clause-leaves
returns-in-Ok-clause-leaves g c = λ job base fault ended files known.
    all_written job base _ files _ _ _ ended known (c.in-Ok.ensures.flushes (plan_of job base) ended.2.lines ended.2.stands)

pub returns-in-Err-Memory-clause-leaves : goal.returns-in-Err-Memory-clause-leaves
returns-in-Err-Memory-clause-leaves g c = λ job base fault ended files known.
    rest_left job base _ files _ _ _ Memory ended known disk_fault.Memory refl (c.in-Err-Memory.ensures.flushes (plan_of job base) ended.2.lines ended.2.stands)

pub returns-in-Err-Failed-clause-leaves : goal.returns-in-Err-Failed-clause-leaves
returns-in-Err-Failed-clause-leaves g c = λ job base fault ended files known.
    rest_left job base _ files _ _ _ Write ended known disk_fault.Failed refl (c.in-Err-Failed.ensures.flushes (plan_of job base) ended.2.lines ended.2.stands)
