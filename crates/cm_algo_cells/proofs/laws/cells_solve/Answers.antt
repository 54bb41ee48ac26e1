use Rattle.cm_algo_cells.proofs.Solving.{plan_solved}
use Rattle.cm_algo_cells.proofs.laws.cells_solve.Goals as goal

pub returns : goal.returns
returns c = plan_solved
