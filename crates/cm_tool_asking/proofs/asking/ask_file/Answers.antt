use Rattle.std.proofs.Common.{[], ◌∙◌}
use Rattle.cm_io.specs.NotingLaws.{noted_nothing}
use Rattle.cm_tool_asking.specs.Asking.{asking}
use Rattle.cm_tool_asking.specs.Leaves.{wrote}
use Rattle.cm_tool_asking.proofs.Steps.{kept_unloaded, stop_cause, with_loaded, without}
use Rattle.cm_tool_asking.proofs.asking.ask_file.Goals as goal

pub returns-in-Err-clause-cause : goal.returns-in-Err-clause-cause
returns-in-Err-clause-cause g c = rw c.stop_of_load.ensures.stop (stop_cause c.in-Err.fault _ _ _ c.in-Err.ensures.cause)

pub returns-in-Err-clause-out : goal.returns-in-Err-clause-out
returns-in-Err-clause-out g c = rw c.stop_of_load.ensures.stop (kept_unloaded c.in-Err.fault _)

pub returns-in-Err-clause-says : goal.returns-in-Err-clause-says
returns-in-Err-clause-says g c = ([], noted_nothing _ _)

pub returns-in-Err-clause-told : goal.returns-in-Err-clause-told
returns-in-Err-clause-told g c = λ files is.
    let a = asking c.args.files.now g.A.Asked.meaning g.A.Fault.Explained.message in
    ([], noted_nothing _ _, rw c.stop_of_load.ensures.stop (without a files _ c.in-Err.fault (c.in-Err.ensures.loads files is)))

pub returns-in-Ok-clause-cause : goal.returns-in-Ok-clause-cause
returns-in-Ok-clause-cause g c = rw c.in-Ok.ensures.cause at c.ask_keys.ensures.cause

pub returns-in-Ok-clause-told : goal.returns-in-Ok-clause-told
returns-in-Ok-clause-told g c = λ files is.
    let a = asking c.args.files.now g.A.Asked.meaning g.A.Fault.Explained.message in
    let told = c.ask_keys.ensures.told files (c.load_file.ensures.files ∙ is) in
    (told.0, told.1, with_loaded a c.in-Ok.loaded files (wrote _ _ told.0) c.ask_keys.result (c.in-Ok.ensures.loads files is) told.2)
