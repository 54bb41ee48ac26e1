use Rattle.cm_witness_gather.proofs.NotedLemmas.{later_paired}
use Rattle.cm_witness_gather.proofs.laws.each_paired.Goals as goal

pub returns : goal.returns
returns c = later_paired
