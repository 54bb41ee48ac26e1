use Rattle.std.proofs.Common.{inl, inr, Result, Ok, Err, List, ℕ, Option, arith, length}
use Rattle.cm_io.specs.Files.{Files}
use Rattle.cm_io.specs.declared.fault.DiskFault.{DiskFault}
use Rattle.cm_shards_split.specs.Parts.{Creates, CreatesParts}
use Rattle.cm_shards_split.proofs.Created.{counts_created}
use Rattle.cm_shards_split.proofs.creating.create_files.Goals as goal

after_counts : (dir : List ℕ) (old new : Option Files) (n : ℕ) (result : Result (Unit {0}) DiskFault) → CreatesParts dir old n new result → Creates dir n old new result
after_counts dir old new n (Ok _) creates = creates
after_counts dir old new n (Err fault) creates = inr creates

pub returns-in-Ok-clause-creates : goal.returns-in-Ok-clause-creates
returns-in-Ok-clause-creates g c = λ dir path have.
    after_counts dir _ _ (length c.args.parts.now) c.create_parts.result (c.create_parts.ensures.creates dir _ have (counts_created dir _ _ _ path c.in-Ok.ensures.files))

pub returns-in-Err-clause-creates : goal.returns-in-Err-clause-creates
returns-in-Err-clause-creates g c = λ dir path have.
    elim c.in-Err.ensures.files [
      | inl same ↦ inl same
      | inr empty ↦ inr (0, omega arith, counts_created dir _ _ _ path empty)
    ]
