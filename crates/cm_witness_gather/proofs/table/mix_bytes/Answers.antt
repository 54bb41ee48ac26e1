use Rattle.std.proofs.Common.{refl, arith}
use Rattle.std.proofs.lemmas.Grind.{common_steps}
use Rattle.cm_witness_gather.specs.Candidates.{mixed}
use Rattle.cm_witness_gather.proofs.table.mix_bytes.Goals as goal

pub loop-b-init : goal.loop-b-init
unfolding mixed
loop-b-init c = refl

pub loop-b-preserved : goal.loop-b-preserved
unfolding mixed
loop-b-preserved c = grind (arith, common_steps)
