use Rattle.std.proofs.Common.{arith}
use Rattle.std.proofs.lemmas.Grind.{common_steps}
use Rattle.cm_brz_func.proofs.HeldLemmas.{length_all_held}
use Rattle.cm_brz_func.proofs.parts.BrzParts.miscounts.Goals as goal

pub returns-else-count_busy-size : goal.returns-else-count_busy-size
returns-else-count_busy-size c = grind (arith, common_steps, length_all_held)
