-- The statuses and messages of splits.
use Rattle.std.specs.Prelude.{ℕ, List, [], Result, Ok, Err}
use Rattle.cm_shards_split.specs.declared.stop.SplitStop.{SplitStop}
use Rattle.cm_shards_split.specs.declared.stop.SplitStop.TheVariants.{Memory, Read, TooLong, TooMany, Write}
use Rattle.cm_shards_words.specs.Messages.{too_many_lines}
use Rattle.cm_shards_words.specs.Program.{program}
use Rattle.cm_shards_words.specs.declared.jobs.SplitJob.{SplitJob}
use Rattle.cm_tool_stops.specs.Messages.{cannot_read, cannot_write, line_too_long, out_of_memory}

-- the status of a split that stopped
abbrev pub stop_status : SplitStop → ℕ
stop_status Memory = 6
stop_status Read = 4
stop_status Write = 5
stop_status (TooLong line) = 8
stop_status TooMany = 8

-- what is said of it
abbrev pub stop_message : SplitJob → SplitStop → List ℕ
stop_message job Memory = out_of_memory program
stop_message job Read = cannot_read program job.keys
stop_message job Write = cannot_write program job.dir
stop_message job (TooLong line) = line_too_long program job.keys line
stop_message job TooMany = too_many_lines job.keys

-- the status of an end, and what is said of it
abbrev pub end_status : Result (Unit {0}) SplitStop → ℕ
end_status (Ok _) = 0
end_status (Err stop) = stop_status stop

abbrev pub end_message : SplitJob → Result (Unit {0}) SplitStop → List ℕ
end_message job (Ok _) = []
end_message job (Err stop) = stop_message job stop
