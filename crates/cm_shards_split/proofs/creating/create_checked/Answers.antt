use Rattle.std.proofs.Common.{Option, length, inl, subst}
use Rattle.cm_io.specs.Files.{Files}
use Rattle.cm_shards_split.specs.Parts.{Creates}
use Rattle.cm_shards_split.proofs.creating.create_checked.Goals as goal

pub returns-in-Ok-clause-creates : goal.returns-in-Ok-clause-creates
returns-in-Ok-clause-creates g c = λ dir path have.
    subst (λ (old : Option Files). Creates dir (length c.args.parts.now) old (g.D.Disk.state c.create_files.new.disk).files c.create_files.result) c.in-Ok.ensures.files (c.create_files.ensures.creates dir path have)

pub returns-in-Err-clause-creates : goal.returns-in-Err-clause-creates
returns-in-Err-clause-creates g c = λ dir path have. inl c.in-Err.ensures.files
