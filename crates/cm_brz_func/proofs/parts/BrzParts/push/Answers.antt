use Rattle.std.proofs.Common.{refl}
use Rattle.cm_brz_func.proofs.parts.BrzParts.push.Goals as goal

pub returns-then-miscounts-clause-refused : goal.returns-then-miscounts-clause-refused
returns-then-miscounts-clause-refused c = refl
