use Rattle.std.proofs.Common.{rules, ◌≡◌}
use Rattle.cm_tool_cells.specs.Recipes.{tried}
use Rattle.cm_tool_cells.proofs.Failures.{failed_as, fails_cells}
use Rattle.cm_tool_cells.proofs.making.make_cells.Goals as goal

pub returns-in-Ok-clause-first : goal.returns-in-Ok-clause-first
returns-in-Ok-clause-first g c = λ told is.
    let seeds : c.as_slice.result.now ≡ tried c.args.recipe = search rules in
    rw seeds at (c.in-Ok.ensures.first told is)

pub returns-in-Err-clause-refused : goal.returns-in-Err-clause-refused
returns-in-Err-clause-refused g c = λ told is.
    let seeds : c.as_slice.result.now ≡ tried c.args.recipe = search rules in
    rw c.fault_of.ensures.fault (fails_cells _ _ c.args.recipe told c.in-Err.fault (rw seeds at (c.in-Err.ensures.fault told is)) (rw seeds at c.in-Err.ensures.certificate))

pub returns-in-Err-clause-failed : goal.returns-in-Err-clause-failed
returns-in-Err-clause-failed g c = rw c.fault_of.ensures.fault (failed_as _ c.in-Err.fault c.in-Err.ensures.failed)
