use Rattle.std.proofs.Common.{rules, ◌≡◌}
use Rattle.cm_store_dump.proofs.Made.{allowed, caused, failed_as, is_made, is_refused}
use Rattle.cm_store_dump.proofs.making.make_store.Goals as goal
use Rattle.cm_store_dump.specs.Building.{recipe_of}
use Rattle.cm_tool_cells.specs.Recipes.{tried}

pub returns-in-Ok-clause-made : goal.returns-in-Ok-clause-made
returns-in-Ok-clause-made g c = λ told known.
    let seeds : c.as_slice.result.now ≡ tried (recipe_of c.args.job.now) = search rules in
    (is_made c.args.job.now told c.in-Ok.store (rw seeds at (c.in-Ok.ensures.made told known)) c.in-Ok.ensures.store c.in-Ok.ensures.index).verdict

pub returns-in-Ok-clause-makes : goal.returns-in-Ok-clause-makes
returns-in-Ok-clause-makes g c = λ told known.
    let seeds : c.as_slice.result.now ≡ tried (recipe_of c.args.job.now) = search rules in
    (is_made c.args.job.now told c.in-Ok.store (rw seeds at (c.in-Ok.ensures.made told known)) c.in-Ok.ensures.store c.in-Ok.ensures.index).is

pub returns-in-Err-clause-refused : goal.returns-in-Err-clause-refused
returns-in-Err-clause-refused g c = λ told known.
    let seeds : c.as_slice.result.now ≡ tried (recipe_of c.args.job.now) = search rules in
    rw c.fault_of.ensures.fault (is_refused c.args.job.now told c.in-Err.fault (rw seeds at (c.in-Err.ensures.refused told known)) (rw seeds at c.in-Err.ensures.form))

pub returns-in-Err-clause-cause : goal.returns-in-Err-clause-cause
returns-in-Err-clause-cause g c = λ w. rw c.fault_of.ensures.fault (caused c.in-Err.fault _ _ w c.in-Err.ensures.cause)

pub returns-in-Err-clause-failed : goal.returns-in-Err-clause-failed
returns-in-Err-clause-failed g c = rw c.fault_of.ensures.fault (failed_as _ _ c.in-Err.fault c.in-Err.ensures.failed)

pub returns-in-Err-clause-form : goal.returns-in-Err-clause-form
returns-in-Err-clause-form g c = rw c.fault_of.ensures.fault (allowed c.in-Err.fault)
