use Rattle.std.proofs.Common.{ℕ, sym, subst}
use Rattle.cm_shards_join.specs.Leaves.{HasReadCause}
use Rattle.cm_shards_manifest.specs.Paths.{name_of, path_of}
use Rattle.cm_shards_join.proofs.taking.take_function.Goals as goal

pub returns-in-Ok-read_function-clause-cause : goal.returns-in-Ok-read_function-clause-cause
returns-in-Ok-read_function-clause-cause g c =
    let r : ℕ = (g.D.Disk.state c.args.disk.now).read_faults in
    subst (λ (n : ℕ). HasReadCause r n c.take_file.result) (sym c.in-Ok-read_function.ensures.cause) (c.take_file.ensures.cause r)

pub returns-in-Ok-read_function-clause-named : goal.returns-in-Ok-read_function-clause-named
returns-in-Ok-read_function-clause-named g c = c.take_file.ensures.named (path_of c.args.manifest.now (name_of c.args.manifest.now c.args.function.now))
