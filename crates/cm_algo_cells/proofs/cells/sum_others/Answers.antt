use Rattle.std.proofs.Common.{rules}
use Rattle.cm_algo_cells.proofs.cells.sum_others.Goals as goal

pub loop-u-preserved : goal.loop-u-preserved
loop-u-preserved g c = search rules
