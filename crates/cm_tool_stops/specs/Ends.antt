-- The status and the message of a job that stopped.
use Rattle.std.specs.Prelude.{◌≡◌, ◌<◌, ◌^◌, ℕ, List, [], take}
use Rattle.cm_io.specs.States.{SinkState}
use Rattle.cm_io.specs.Writing.{then_bytes}
use Rattle.cm_tool_stops.specs.Messages.{bad_dump, cannot_write_out, out_of_memory, cannot_read, cannot_use_spill, cannot_write, keys_changed, no_keys, line_too_long, records_too_large, seed_failure_message, spill_damaged, too_many_keys}
use Rattle.cm_tool_stops.specs.Named.{Named}
use Rattle.cm_tool_stops.specs.declared.stop.QueryStop.{QueryStop}
use Rattle.cm_tool_stops.specs.declared.stop.QueryStop.TheVariants as query_stop
use Rattle.cm_tool_stops.specs.declared.stop.Stop.{Stop}
use Rattle.cm_tool_stops.specs.declared.stop.Stop.TheVariants.{Memory, Read, Write, WriteOut, Refused, Changed, Spill, SpillDamaged, NoKeys, TooLong, TooMany, TooLarge}
use Rattle.cm_tool_stops.specs.declared.stop.UpgradeStop.{UpgradeStop}
use Rattle.cm_tool_stops.specs.declared.stop.UpgradeStop.TheVariants as upgrade_stop
use Rattle.cm_words_arguments.specs.declared.fault.UsageFault.{UsageFault}
use Rattle.cm_words_arguments.specs.declared.fault.UsageFault.TheVariants as usage

-- the status of a build that stopped
abbrev pub status_of : Stop → ℕ
status_of Memory = 6
status_of Read = 4
status_of Write = 5
status_of WriteOut = 5
status_of (Refused failure) = 1
status_of (Changed first again) = 7
status_of Spill = 5
status_of (SpillDamaged offset expected found) = 7
status_of NoKeys = 8
status_of (TooLong line) = 8
status_of TooMany = 8
status_of (TooLarge line) = 8

-- its message, by what it names and by the directory of the spill
abbrev pub message_of : Named → List ℕ → Stop → List ℕ
message_of names dir Memory = out_of_memory names.program
message_of names dir Read = cannot_read names.program names.keys
message_of names dir Write = cannot_write names.program names.function
message_of names dir WriteOut = cannot_write_out names.program
message_of names dir (Refused failure) = seed_failure_message names.program failure
message_of names dir (Changed first again) = keys_changed names.program names.keys first again
message_of names dir Spill = cannot_use_spill names.program dir
message_of names dir (SpillDamaged offset expected found) = spill_damaged names.program dir offset expected found
message_of names dir NoKeys = no_keys names.program names.keys
message_of names dir (TooLong line) = line_too_long names.program names.keys line
message_of names dir TooMany = too_many_keys names.program names.keys
message_of names dir (TooLarge line) = records_too_large names.program names.keys line

-- the status of a query that stopped
abbrev pub query_status_of : {F : Type 0} → QueryStop F → ℕ
query_status_of query_stop.Memory = 6
query_status_of query_stop.NoFunction = 4
query_status_of (query_stop.BadFile fault) = 3
query_status_of query_stop.Read = 4
query_status_of query_stop.Write = 5
query_status_of (query_stop.TooLong line) = 8
query_status_of query_stop.TooMany = 8

-- its message, by what it names and by that of a file with bytes that it can't have
abbrev pub query_message_of : {F : Type 0} → (F → Named → List ℕ) → Named → QueryStop F → List ℕ
query_message_of message names query_stop.Memory = out_of_memory names.program
query_message_of message names query_stop.NoFunction = cannot_read names.program names.function
query_message_of message names (query_stop.BadFile fault) = message fault names
query_message_of message names query_stop.Read = cannot_read names.program names.keys
query_message_of message names query_stop.Write = cannot_write_out names.program
query_message_of message names (query_stop.TooLong line) = line_too_long names.program names.keys line
query_message_of message names query_stop.TooMany = too_many_keys names.program names.keys

-- the status of an upgrade that stopped
abbrev pub upgrade_status_of : UpgradeStop → ℕ
upgrade_status_of upgrade_stop.Memory = 6
upgrade_status_of upgrade_stop.Read = 4
upgrade_status_of (upgrade_stop.BadDump fault) = 3
upgrade_status_of upgrade_stop.Write = 5

-- its message, by what it names
abbrev pub upgrade_message_of : Named → UpgradeStop → List ℕ
upgrade_message_of names upgrade_stop.Memory = out_of_memory names.program
upgrade_message_of names upgrade_stop.Read = cannot_read names.program names.function
upgrade_message_of names (upgrade_stop.BadDump fault) = bad_dump names.program names.function fault
upgrade_message_of names upgrade_stop.Write = cannot_write names.program names.function

-- the status of arguments that ask for no job
abbrev pub usage_status_of : UsageFault → ℕ
usage_status_of usage.Memory = 6
usage_status_of usage.Words = 2
usage_status_of (usage.BadValue letter) = 2
usage_status_of usage.NoFile = 2

-- the message of a program that prints a text, by its status
pub record IsPrintMessage (program : List ℕ) (status : ℕ) (text : List ℕ) : Type 0 where
  pub done : status ≡ 0 → text ≡ []
  pub write : status ≡ 5 → text ≡ cannot_write_out program
  pub memory : status ≡ 6 → text ≡ out_of_memory program

-- err got the text, or a prefix of it if its own count rose
pub record Says (old new : SinkState) (text : List ℕ) : Type 0 where
  pub front : (n : ℕ) × (new.written ≡ then_bytes old.written (take n text))
  pub whole : old.faults < 2 ^ 63 → new.faults ≡ old.faults → new.written ≡ then_bytes old.written text
