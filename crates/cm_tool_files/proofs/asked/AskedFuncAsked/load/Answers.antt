use Rattle.cm_tool_files.proofs.Loads.{spelled_by, unloaded_by, unloaded_cause}
use Rattle.cm_tool_files.proofs.asked.AskedFuncAsked.load.Goals as goal

pub returns-in-Ok-clause-spelled : goal.returns-in-Ok-clause-spelled
returns-in-Ok-clause-spelled g c = λ bytes is. spelled_by bytes c.in-Ok.loaded (c.in-Ok.ensures.spelling bytes is) (c.in-Ok.ensures.version bytes is)

pub returns-in-Err-clause-cause : goal.returns-in-Err-clause-cause
returns-in-Err-clause-cause g c = rw c.unloaded.ensures.fault (unloaded_cause c.in-Err.fault _ _ c.in-Err.ensures.cause)

pub returns-in-Err-clause-spelled : goal.returns-in-Err-clause-spelled
returns-in-Err-clause-spelled g c = λ bytes is. rw c.unloaded.ensures.fault (unloaded_by c.in-Err.fault bytes (c.in-Err.ensures.spelling bytes is))
