use Rattle.std.proofs.Common.{Ok, Err, refl}
use Rattle.cm_io.specs.declared.fault.DiskFault.TheVariants as disk_fault
use Rattle.cm_shards_split.proofs.Finished.{rest_left, whole_written}
use Rattle.cm_shards_split.specs.Leaves.{plan_of}
use Rattle.cm_shards_split.specs.declared.stop.SplitStop.TheVariants.{Memory, Write}
use Rattle.cm_shards_split.proofs.finishing.write_whole.Goals as goal

pub returns-in-Err-Memory-clause-leaves : goal.returns-in-Err-Memory-clause-leaves
returns-in-Err-Memory-clause-leaves g c = λ job base path ended files known.
    rest_left job base _ files _ _ _ Memory ended known disk_fault.Memory refl (c.in-Err-Memory.ensures.flushes (plan_of job base) ended.2.lines ended.2.stands)

pub returns-in-Err-Failed-clause-leaves : goal.returns-in-Err-Failed-clause-leaves
returns-in-Err-Failed-clause-leaves g c = λ job base path ended files known.
    rest_left job base _ files _ _ _ Write ended known disk_fault.Failed refl (c.in-Err-Failed.ensures.flushes (plan_of job base) ended.2.lines ended.2.stands)

pub returns-in-Ok-store_file-clause-leaves : goal.returns-in-Ok-store_file-clause-leaves
returns-in-Ok-store_file-clause-leaves g c = λ job base path ended files known.
    let written = c.in-Ok.ensures.flushes (plan_of job base) ended.2.lines ended.2.stands in
    whole_written job base _ _ files _ c.flush_parts.new.parts _ c.args.counts.now (Ok tt) ended known written c.in-Ok.ensures.counts path c.in-Ok-store_file.ensures.files

pub returns-in-Err-Memory-store_file-clause-leaves : goal.returns-in-Err-Memory-store_file-clause-leaves
returns-in-Err-Memory-store_file-clause-leaves g c = λ job base path ended files known.
    let written = c.in-Ok.ensures.flushes (plan_of job base) ended.2.lines ended.2.stands in
    whole_written job base _ _ files _ c.flush_parts.new.parts _ c.args.counts.now (Err disk_fault.Memory) ended known written c.in-Ok.ensures.counts path (rw c.in-Err-Memory-store_file.field-0-is at c.in-Err-Memory-store_file.ensures.files)

pub returns-in-Err-Failed-store_file-clause-leaves : goal.returns-in-Err-Failed-store_file-clause-leaves
returns-in-Err-Failed-store_file-clause-leaves g c = λ job base path ended files known.
    let written = c.in-Ok.ensures.flushes (plan_of job base) ended.2.lines ended.2.stands in
    whole_written job base _ _ files _ c.flush_parts.new.parts _ c.args.counts.now (Err disk_fault.Failed) ended known written c.in-Ok.ensures.counts path (rw c.in-Err-Failed-store_file.field-0-is at c.in-Err-Failed-store_file.ensures.files)
