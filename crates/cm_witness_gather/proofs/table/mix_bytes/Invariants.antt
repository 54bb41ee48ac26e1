use Rattle.std.proofs.Common.{◌≡◌, take}
use Rattle.cm_witness_gather.specs.Candidates.{mixed}
use Rattle.cm_witness_gather.proofs.table.mix_bytes.Given as goal

abbrev pub invariant-loop-b : goal.invariant-loop-b
invariant-loop-b l = l.number ≡ mixed (take l.b-index l.key)
