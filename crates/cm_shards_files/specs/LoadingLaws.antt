-- Lemmas about steps that read a disk, for those who call them. No contract needs them.
use Rattle.std.proofs.Common.{◌∙◌, refl}
use Rattle.cm_io.specs.States.{DiskState}
use Rattle.cm_shards_files.specs.Loading.{ChangesNoFile}

-- none yet
pub no_step : (disk : DiskState) → ChangesNoFile disk disk
no_step disk = record { files = refl; spilled = refl; write_faults = refl }

-- one step, and then another
pub then_no_file : {a b c : DiskState} → ChangesNoFile a b → ChangesNoFile b c → ChangesNoFile a c
then_no_file first next = record { files = next.files ∙ first.files; spilled = next.spilled ∙ first.spilled; write_faults = next.write_faults ∙ first.write_faults }
