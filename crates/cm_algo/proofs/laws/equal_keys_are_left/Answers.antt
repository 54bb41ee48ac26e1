use Rattle.cm_algo_seeds.specs.EqualKeysLaws.{equal_is_left}
use Rattle.cm_algo.proofs.laws.equal_keys_are_left.Goals as goal

pub returns : goal.returns
returns c = equal_is_left
