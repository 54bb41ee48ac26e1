use Rattle.std.proofs.Common.{◌≡◌, take}
use Rattle.cm_witness_gather.specs.Candidates.{mixed}
use Rattle.cm_witness_gather.proofs.candidates.mix.Given as goal

abbrev pub invariant-loop-v : goal.invariant-loop-v
invariant-loop-v g l = l.number ≡ mixed (take l.v-index l.v-items)
