-- What is said of a join that stopped.
use Rattle.std.specs.Prelude.{ℕ, List, [], codes, Result, Ok, Err}
use Rattle.cm_shards_join.specs.declared.stop.JoinStop.{JoinStop}
use Rattle.cm_shards_join.specs.declared.stop.JoinStop.TheVariants as stop
use Rattle.cm_shards_words.specs.Messages.{file_message, line_message}
use Rattle.cm_shards_words.specs.Program.{program}
use Rattle.cm_shards_words.specs.declared.jobs.JoinJob.{JoinJob}
use Rattle.cm_tool_stops.specs.Messages.{bad_dump, cannot_read, cannot_write, out_of_memory}

-- the status of a join that stopped
abbrev pub status_of : JoinStop → ℕ
status_of stop.Memory = 6
status_of (stop.Read path) = 4
status_of (stop.BadName path) = 3
status_of (stop.BadDump path fault) = 3
status_of (stop.Another path) = 3
status_of (stop.BadCounts path line) = 3
status_of stop.Write = 5

-- its message
abbrev pub message_of : JoinJob → JoinStop → List ℕ
message_of job stop.Memory = out_of_memory program
message_of job (stop.Read path) = cannot_read program path
message_of job (stop.BadName path) = file_message path (codes ": bad name\n")
message_of job (stop.BadDump path fault) = bad_dump program path fault
message_of job (stop.Another path) = file_message path (codes ": another algorithm\n")
message_of job (stop.BadCounts path line) = line_message path (codes ": another count at line ") line (codes "\n")
message_of job stop.Write = cannot_write program job.manifest

-- the status of an end, and what is said of it
abbrev pub end_status : Result (Unit {0}) JoinStop → ℕ
end_status (Ok done) = 0
end_status (Err s) = status_of s

abbrev pub end_message : JoinJob → Result (Unit {0}) JoinStop → List ℕ
end_message job (Ok done) = []
end_message job (Err s) = message_of job s
