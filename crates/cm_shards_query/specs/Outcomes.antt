-- What a query or a test comes to, by the files.
use Rattle.std.specs.Prelude.{ℕ, List, [], ◌++◌, Option, None, Some, Result, Ok, Err}
use Rattle.std.specs.Option.{option_map}
use Rattle.cm_io.specs.Files.{Files, file_at}
use Rattle.cm_io.specs.Passes.{Told}
use Rattle.cm_io.specs.declared.key_pass.KeyFault.{KeyFault}
use Rattle.cm_keys.specs.Streams.{stream_in}
use Rattle.cm_shards_files.specs.Loading.{shards_of}
use Rattle.cm_shards_files.specs.Shards.{Sharded}
use Rattle.cm_shards_files.specs.declared.fault.ShardsFault.{ShardsFault}
use Rattle.cm_shards_query.specs.Texts.{load_message}
use Rattle.cm_shards_query.specs.Written.{Reply, numbers_of, reply_by}
use Rattle.cm_shards_words.specs.Messages.{line_fault_message}
use Rattle.cm_shards_words.specs.declared.jobs.AskJob.{AskJob}
use Rattle.cm_tool_stops.specs.Ending.{Outcome, refusal}

-- the lines in the bytes of the keys file, and the fault at their end
abbrev pub lines_of : AskJob → List ℕ → Told
lines_of job bytes = stream_in job.first job.end bytes

-- what is said of the fault at the end of the lines, if there is one
abbrev pub fault_said : AskJob → Option KeyFault → List ℕ
fault_said job None = []
fault_said job (Some fault) = line_fault_message job.keys fault

-- a reply to the lines is written
abbrev pub replying : AskJob → Files → Reply → Outcome
replying job files reply = record { status = reply.status; out = reply.out; err = reply.notes ++ fault_said job reply.fault; files = files }

-- the outcome over the bytes of the keys file
unfoldable pub outcome_over : AskJob → Files → Sharded → List ℕ → Outcome
outcome_over job files s bytes = replying job files (reply_by job.test job.end (numbers_of s) (lines_of job bytes))

-- by what the manifest and its functions come to; the keys file is needed if they are all there and sound
abbrev pub outcome_by : AskJob → Files → Option (Result Sharded ShardsFault) → Option Outcome
outcome_by job files None = None
outcome_by job files (Some (Err fault)) = Some (refusal 3 (load_message job.manifest fault) files)
outcome_by job files (Some (Ok s)) = option_map (outcome_over job files s) (file_at files job.keys)

-- the outcome, if the manifest is there, and the functions and the keys file, where they are needed
abbrev pub outcome_of : AskJob → Files → Option Outcome
outcome_of job files = outcome_by job files (shards_of files job.manifest)
