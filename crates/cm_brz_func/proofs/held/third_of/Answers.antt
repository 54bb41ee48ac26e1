use Rattle.std.proofs.Common.{arith}
use Rattle.cm_brz_func.proofs.SizeLemmas.{few_bdz_cells}
use Rattle.cm_brz_func.proofs.held.third_of.Goals as goal

pub overflow_cast-result : goal.overflow_cast-result
overflow_cast-result c = omega (arith, c.size.ensures.size, few_bdz_cells c.args.size c.args.c c.requires.ratio, c.requires.small)
