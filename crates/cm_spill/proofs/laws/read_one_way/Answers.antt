use Rattle.cm_spill.proofs.Coding.{one_list}
use Rattle.cm_spill.proofs.laws.read_one_way.Goals as goal

pub returns : goal.returns
returns c = record { one = one_list }
