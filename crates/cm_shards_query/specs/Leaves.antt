-- What each end of a query or a test leaves.
use Rattle.std.specs.Prelude.{◌≡◌, ◌≤◌, ◌+◌, ℕ, List, [], take, Option, None, Some, Bool, true, false, Result, Ok, Err, IfErr}
use Rattle.cm_io.specs.Causes.{Rose}
use Rattle.cm_io.specs.Files.{Files, file_at}
use Rattle.cm_io.specs.Noting.{Noted}
use Rattle.cm_io.specs.Passes.{Told}
use Rattle.cm_io.specs.States.{IsSent, SinkState}
use Rattle.cm_io.specs.Writing.{then_bytes}
use Rattle.cm_io.specs.declared.key_pass.KeyFault.{KeyFault}
use Rattle.cm_io.specs.declared.key_pass.KeyFault.TheVariants as key_fault
use Rattle.cm_keys.specs.declared.lines.LineFault.{LineFault}
use Rattle.cm_keys.specs.declared.lines.LineFault.TheVariants as line_fault
use Rattle.cm_shards_files.specs.Loading.{IsShardsCause, LoadsShards, shards_of}
use Rattle.cm_shards_files.specs.Shards.{Sharded}
use Rattle.cm_shards_query.specs.Outcomes.{lines_of}
use Rattle.cm_shards_query.specs.Texts.{load_message, load_status}
use Rattle.cm_shards_query.specs.Written.{Numbers, Reply, number_replies, numbers_of, reply_by, test_end, test_reply}
use Rattle.cm_shards_query.specs.declared.stop.AskStop.{AskStop}
use Rattle.cm_shards_query.specs.declared.stop.AskStop.TheVariants.{Load, Memory, Read, TooLong, TooMany, Write}
use Rattle.cm_shards_query.specs.declared.stop.LinesStop.{LinesStop}
use Rattle.cm_shards_query.specs.declared.stop.LinesStop.TheVariants as lines_stop
use Rattle.cm_shards_query.specs.declared.verdict.Verdict.{Verdict}
use Rattle.cm_shards_words.specs.Messages.{line_fault_message}
use Rattle.cm_shards_words.specs.Program.{program}
use Rattle.cm_shards_words.specs.declared.jobs.AskJob.{AskJob}
use Rattle.cm_tool_asking.specs.Asking.{status_by}
use Rattle.cm_tool_asking.specs.Leaves.{AskedAll, AskedPart, GotNothing, Question, Wrote}
use Rattle.cm_tool_asking.specs.Meanings.{Replies}
use Rattle.cm_tool_stops.specs.Messages.{cannot_read, cannot_write_out, out_of_memory}

-- why lines that were not all answered stop a job
abbrev pub stop_from_lines : LinesStop → AskStop
stop_from_lines lines_stop.Read = Read
stop_from_lines lines_stop.Write = Write
stop_from_lines (lines_stop.TooLong line) = TooLong line
stop_from_lines lines_stop.TooMany = TooMany

-- why lines stop that have this fault after so many lines
abbrev pub stop_from_line : ℕ → LineFault → LinesStop
stop_from_line count line_fault.Read = lines_stop.Read
stop_from_line count line_fault.TooLong = lines_stop.TooLong (count + 1)
stop_from_line count line_fault.TooMany = lines_stop.TooMany

-- the status of a job that stopped, and what is said of it after the notes
abbrev pub stop_status : AskStop → ℕ
stop_status Memory = 6
stop_status (Load fault) = load_status fault
stop_status Read = 4
stop_status Write = 5
stop_status (TooLong line) = 8
stop_status TooMany = 8

abbrev pub stop_message : AskJob → AskStop → List ℕ
stop_message job Memory = out_of_memory program
stop_message job (Load fault) = load_message job.manifest fault
stop_message job Read = cannot_read program job.keys
stop_message job Write = cannot_write_out program
stop_message job (TooLong line) = line_fault_message job.keys (key_fault.TooLong line)
stop_message job TooMany = line_fault_message job.keys key_fault.TooMany

-- Lines that stopped have raised the count of reading, if they could not be read, and that of out, if it could not be written.
abbrev pub IsLinesCause : ℕ → ℕ → ℕ → ℕ → LinesStop → Type 0
IsLinesCause r r' o o' lines_stop.Read = (r ≤ r') × Rose r r' × (o' ≡ o)
IsLinesCause r r' o o' lines_stop.Write = (r' ≡ r) × (o ≤ o') × Rose o o'
IsLinesCause r r' o o' (lines_stop.TooLong line) = (r' ≡ r) × (o' ≡ o)
IsLinesCause r r' o o' lines_stop.TooMany = (r' ≡ r) × (o' ≡ o)

abbrev pub HasLinesCause : {T : Type 0} → ℕ → ℕ → ℕ → ℕ → Result T LinesStop → Type 0
HasLinesCause r r' o o' (Ok x) = (r' ≡ r) × (o' ≡ o)
HasLinesCause r r' o o' (Err stop) = IsLinesCause r r' o o' stop

-- the same of a job
abbrev pub IsStopCause : ℕ → ℕ → ℕ → ℕ → AskStop → Type 0
IsStopCause r r' o o' Memory = (r' ≡ r) × (o' ≡ o)
IsStopCause r r' o o' (Load fault) = IsShardsCause r r' fault × (o' ≡ o)
IsStopCause r r' o o' Read = (r ≤ r') × Rose r r' × (o' ≡ o)
IsStopCause r r' o o' Write = (r' ≡ r) × (o ≤ o') × Rose o o'
IsStopCause r r' o o' (TooLong line) = (r' ≡ r) × (o' ≡ o)
IsStopCause r r' o o' TooMany = (r' ≡ r) × (o' ≡ o)

abbrev pub HasStopCause : {T : Type 0} → ℕ → ℕ → ℕ → ℕ → Result T AskStop → Type 0
HasStopCause r r' o o' (Ok x) = (r' ≡ r) × (o' ≡ o)
HasStopCause r r' o o' (Err stop) = IsStopCause r r' o o' stop

-- What a step leaves on out: nothing if memory runs out. If the buffer of out was empty before, it is empty after it, or out failed.
pub record LeavesOut (old new : SinkState) (result : Result Bool AskStop) : Type 0 where
  pub memory : IfErr result (λ stop. stop_status stop ≡ 6 → new.written ≡ old.written)
  pub sent : old.waits ≡ 0 → IsSent old new

-- What a step leaves on err: notes. If the buffer of err was empty before, it is empty after it, unless a note has failed.
pub record LeavesErr (had_failed failed : Bool) (old new : SinkState) : Type 0 where
  pub sent : (had_failed ≡ false → old.waits ≡ 0) → failed ≡ false → new.waits ≡ 0
  pub says : (text : List ℕ) × Noted had_failed failed old new text

-- how the known lines of a query ended
abbrev pub EndsQuery : Replies → Told → Wrote → Result Bool LinesStop → Type 0
EndsQuery r told w (Ok complete) = AskedAll r told w None × (complete ≡ r.complete told.keys)
EndsQuery r told w (Err lines_stop.Read) = (given : ℕ) × AskedPart (record { replies = r; keys = told.keys }) w given 0
EndsQuery r told w (Err lines_stop.Write) = (given : ℕ) × (rest : ℕ) × AskedPart (record { replies = r; keys = told.keys }) w given rest
EndsQuery r told w (Err (lines_stop.TooLong line)) = AskedAll r told w (Some (key_fault.TooLong line))
EndsQuery r told w (Err lines_stop.TooMany) = AskedAll r told w (Some key_fault.TooMany)

-- how those of a test ended
abbrev pub EndsTest : Numbers → Told → Result Verdict LinesStop → Type 0
EndsTest n told (Ok verdict) = test_end n told ≡ Ok verdict
EndsTest n told (Err lines_stop.Read) = Unit {0}
EndsTest n told (Err lines_stop.Write) = ⊥
EndsTest n told (Err (lines_stop.TooLong line)) = test_end n told ≡ Err (key_fault.TooLong line)
EndsTest n told (Err lines_stop.TooMany) = test_end n told ≡ Err key_fault.TooMany

-- The whole reply to lines is written, with this status and this fault after it.
pub record AnsweredAll (reply : Reply) (w : Wrote) (status : ℕ) (fault : Option KeyFault) : Type 0 where
  pub out : w.new ≡ then_bytes w.old reply.out
  pub notes_are : w.notes ≡ reply.notes
  pub status_is : status ≡ reply.status
  pub fault_is : fault ≡ reply.fault

-- what a query asks of lines
abbrev pub question_of : ℕ → Numbers → Told → Question
question_of end n told = record { replies = number_replies n.number end; keys = told.keys }

-- The lines could not be read further. The first of a query are answered, and a test has printed nothing.
abbrev pub IsPartBefore : Bool → ℕ → Numbers → Told → Wrote → Type 0
IsPartBefore true end n told w = GotNothing w
IsPartBefore false end n told w = (given : ℕ) × AskedPart (question_of end n told) w given 0

-- Out could not be written. The first lines of a query are answered, and out may have a prefix of the text of one more; it has a prefix of
-- the verdict of a test.
abbrev pub IsPartWritten : Bool → ℕ → Numbers → Told → Wrote → Type 0
IsPartWritten true end n told w = ((rest : ℕ) × (w.new ≡ then_bytes w.old (take rest (test_reply (test_end n told)).out))) × (w.notes ≡ [])
IsPartWritten false end n told w = (given : ℕ) × (rest : ℕ) × AskedPart (question_of end n told) w given rest

-- how known lines were answered, in a test or a query, whose lines end with a byte
abbrev pub EndsLines : Bool → ℕ → Numbers → Told → Wrote → Result Bool AskStop → Type 0
EndsLines test end n told w (Ok complete) = AnsweredAll (reply_by test end n told) w (status_by complete) None
EndsLines test end n told w (Err Memory) = GotNothing w
EndsLines test end n told w (Err (Load fault)) = ⊥
EndsLines test end n told w (Err Read) = IsPartBefore test end n told w
EndsLines test end n told w (Err Write) = IsPartWritten test end n told w
EndsLines test end n told w (Err (TooLong line)) = AnsweredAll (reply_by test end n told) w 8 (Some (key_fault.TooLong line))
EndsLines test end n told w (Err TooMany) = AnsweredAll (reply_by test end n told) w 8 (Some key_fault.TooMany)

-- the lines of a keys file, if it is there
abbrev pub lines_there : AskJob → Option (List ℕ) → Told
lines_there job None = record { keys = []; fault = None }
lines_there job (Some bytes) = lines_of job bytes

-- the keys file is there, and its lines were answered so
abbrev pub EndsBytes : AskJob → Sharded → Files → Wrote → Result Bool AskStop → Type 0
EndsBytes job s files w result = (bytes : List ℕ) × (file_at files job.keys ≡ Some bytes) × EndsLines job.test job.end (numbers_of s) (lines_of job bytes) w result

-- how the lines of the keys file were answered by the functions of these shards
abbrev pub EndsKeys : AskJob → Sharded → Files → Wrote → Result Bool AskStop → Type 0
EndsKeys job s files w (Err Memory) = GotNothing w
EndsKeys job s files w (Err Read) = IsPartBefore job.test job.end (numbers_of s) (lines_there job (file_at files job.keys)) w
EndsKeys job s files w result = EndsBytes job s files w result

-- the manifest and its functions were loaded, and the lines were answered so by them
abbrev pub EndsLoaded : AskJob → Files → Wrote → Result Bool AskStop → Type 0
EndsLoaded job files w result = (s : Sharded) × (shards_of files job.manifest ≡ Some (Ok s)) × EndsKeys job s files w result

-- how a job over files ended
abbrev pub EndsJob : AskJob → Files → Wrote → Result Bool AskStop → Type 0
EndsJob job files w (Err Memory) = GotNothing w
EndsJob job files w (Err (Load fault)) = LoadsShards files job.manifest (Err fault) × GotNothing w
EndsJob job files w result = EndsLoaded job files w result
