use Rattle.std.proofs.Common.{refl}
use Rattle.cm_spec.specs.Dump as examples
use Rattle.cm_dump.specs.Dumps.{chm_dump, header}
use Rattle.cm_dump.proofs.laws.chm_dumps.Goals as goal

pub returns : goal.returns
unfolding chm_dump header examples.chm_dump examples.header
returns c = λ f. refl
