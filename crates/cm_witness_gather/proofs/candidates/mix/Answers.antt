use Rattle.std.proofs.Common.{refl, arith}
use Rattle.std.proofs.lemmas.Grind.{common_steps}
use Rattle.cm_witness_gather.specs.Candidates.{mixed}
use Rattle.cm_witness_gather.proofs.candidates.mix.Goals as goal

pub loop-v-init : goal.loop-v-init
unfolding mixed
loop-v-init g c = refl

pub loop-v-preserved : goal.loop-v-preserved
unfolding mixed
loop-v-preserved g c = grind (arith, common_steps)
