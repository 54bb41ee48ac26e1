use Rattle.std.proofs.Common.{rules}
use Rattle.cm_brz_func.proofs.answers.BrzAnswers.place.Goals as goal

pub returns : goal.returns
returns c = search rules
