use Rattle.std.proofs.Common.{Some}
use Rattle.cm_io.specs.declared.key_pass.KeyFault.TheVariants as key_fault
use Rattle.cm_shards_split.proofs.Finished.{source_files}
use Rattle.cm_shards_split.proofs.finishing.split_parts.Goals as goal

pub returns-in-Ok-clause-leaves : goal.returns-in-Ok-clause-leaves
returns-in-Ok-clause-leaves g c = λ files known. c.write_whole.ensures.leaves c.args.job.now _ c.requires.counts c.in-Ok.ensures.leaves files known

pub returns-in-Ok-write_rest-clause-leaves : goal.returns-in-Ok-write_rest-clause-leaves
returns-in-Ok-write_rest-clause-leaves g c = λ files known. c.in-Ok-write_rest.ensures.leaves c.args.job.now _ (Some (key_fault.TooLong c.in-Err-TooLong.line)) (rw c.in-Err-TooLong.field-0-is at c.in-Err-TooLong.ensures.leaves) files known

pub returns-in-Err-clause-leaves : goal.returns-in-Err-clause-leaves
returns-in-Err-clause-leaves g c = λ files known. c.in-Err.ensures.leaves c.args.job.now _ (Some (key_fault.TooLong c.in-Err-TooLong.line)) (rw c.in-Err-TooLong.field-0-is at c.in-Err-TooLong.ensures.leaves) files known

pub returns-in-Ok-write_rest-2-clause-leaves : goal.returns-in-Ok-write_rest-2-clause-leaves
returns-in-Ok-write_rest-2-clause-leaves g c = λ files known. c.in-Ok-write_rest-2.ensures.leaves c.args.job.now _ (Some key_fault.TooMany) (rw c.in-Err-TooMany.field-0-is at c.in-Err-TooMany.ensures.leaves) files known

pub returns-in-Err-write_rest-clause-leaves : goal.returns-in-Err-write_rest-clause-leaves
returns-in-Err-write_rest-clause-leaves g c = λ files known. c.in-Err-write_rest.ensures.leaves c.args.job.now _ (Some key_fault.TooMany) (rw c.in-Err-TooMany.field-0-is at c.in-Err-TooMany.ensures.leaves) files known

pub returns-in-Err-Memory-clause-leaves : goal.returns-in-Err-Memory-clause-leaves
returns-in-Err-Memory-clause-leaves g c = λ files known. source_files c.args.job.now _ _ files 6 known (rw c.in-Err-Memory.field-0-is at c.in-Err-Memory.ensures.leaves)

pub returns-in-Err-Read-clause-leaves : goal.returns-in-Err-Read-clause-leaves
returns-in-Err-Read-clause-leaves g c = λ files known. source_files c.args.job.now _ _ files 4 known (rw c.in-Err-Read.field-0-is at c.in-Err-Read.ensures.leaves)

pub returns-in-Err-Write-clause-leaves : goal.returns-in-Err-Write-clause-leaves
returns-in-Err-Write-clause-leaves g c = λ files known.
    let left = rw c.in-Err-Write.field-0-is at c.in-Err-Write.ensures.leaves in (left.0 files known, source_files c.args.job.now _ _ files 5 known left.1)
