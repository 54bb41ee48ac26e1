-- What a program does with arguments that ask for no job.
use Rattle.std.specs.Prelude.{◌≡◌, ◌⊎◌, ℕ, List}
use Rattle.cm_io.specs.States.{IsSent, Outside}
use Rattle.cm_tool_stops.specs.Ends.{Says, usage_status_of}
use Rattle.cm_tool_stops.specs.Messages.{out_of_memory, usage_message}
use Rattle.cm_words_arguments.specs.declared.fault.UsageFault.{UsageFault}

-- The status is 2, with the message of that, which a hint may follow, or 6 if memory runs out before. Nothing else is done.
pub record Refuses (program hint : List ℕ) (fault : UsageFault) (old new : Outside) (result : ℕ) : Type 0 where
  pub disk : new.disk ≡ old.disk
  pub out : new.out ≡ old.out
  pub err_sent : old.err.waits ≡ 0 → IsSent old.err new.err
  pub err : ((result ≡ usage_status_of fault) × Says old.err new.err (usage_message program hint fault)) ⊎ ((result ≡ 6) × Says old.err new.err (out_of_memory program))
