use Rattle.std.proofs.Common.{rules}
use Rattle.cm_algo_cells.proofs.cells.tag_at.Goals as goal

pub returns : goal.returns
returns c = search rules
