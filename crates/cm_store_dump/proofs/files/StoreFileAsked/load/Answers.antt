use Rattle.std.proofs.Common.{ap}
use Rattle.std.specs.Result.{result_map_both}
use Rattle.cm_store_dump.proofs.Loads.{unloaded_by, unloaded_cause}
use Rattle.cm_store_dump.proofs.files.StoreFileAsked.load.Goals as goal

pub returns-in-Ok-clause-spelled : goal.returns-in-Ok-clause-spelled
returns-in-Ok-clause-spelled g c = λ bytes is. ap (result_map_both (λ f. record { store = f }) (λ fault. record { fault = fault })) (c.in-Ok.ensures.spelled bytes is)

pub returns-in-Err-clause-cause : goal.returns-in-Err-clause-cause
returns-in-Err-clause-cause g c = rw c.unloaded.ensures.fault (unloaded_cause c.in-Err.fault _ _ c.in-Err.ensures.cause)

pub returns-in-Err-clause-spelled : goal.returns-in-Err-clause-spelled
returns-in-Err-clause-spelled g c = λ bytes is. rw c.unloaded.ensures.fault (unloaded_by c.in-Err.fault bytes (c.in-Err.ensures.spelled bytes is))
