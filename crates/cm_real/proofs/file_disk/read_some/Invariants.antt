use Rattle.std.specs.Io.KnownBytes.{Keeps}
use Rattle.cm_real.proofs.file_disk.read_some.Given as goal

abbrev pub invariant-tries : goal.invariant-tries
invariant-tries g l = Keeps (g.F.Read.remaining l.fn.file) (g.F.Read.remaining l.file)
