use Rattle.std.proofs.Common.{arith}
use Rattle.cm_keys_made.proofs.NumberedLemmas.{keys_are_made}
use Rattle.cm_keys_made.proofs.laws.lines.Goals as goal

pub returns : goal.returns
returns c = λ n few. keys_are_made _ _ n few (omega arith)
