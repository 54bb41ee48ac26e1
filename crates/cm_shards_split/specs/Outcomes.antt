-- What a split comes to, by the files.
use Rattle.std.specs.Prelude.{ℕ, List, [], map, Option, None, Some}
use Rattle.std.specs.Option.{option_map}
use Rattle.cm_io.specs.Files.{Files, file_at}
use Rattle.cm_io.specs.Passes.{Told}
use Rattle.cm_io.specs.declared.key_pass.KeyFault.{KeyFault}
use Rattle.cm_keys.specs.Streams.{stream_in}
use Rattle.cm_route.specs.Routes.{Route}
use Rattle.cm_route.specs.declared.route.TheConstants.{ROUTE_SEED}
use Rattle.cm_shards_split.specs.Placed.{placed}
use Rattle.cm_shards_split.specs.Shares.{counts_text, share_counts, shares}
use Rattle.cm_shards_words.specs.Messages.{line_fault_message}
use Rattle.cm_shards_words.specs.declared.jobs.SplitJob.{SplitJob}
use Rattle.cm_tool_stops.specs.Ending.{Outcome}

-- the route of the lines of a job
abbrev pub route_of : SplitJob → Route
route_of job = record { seed = ROUTE_SEED; shards = job.shards }

-- the numbered lines in the bytes of the keys file, and the fault at their end
abbrev pub told_of : SplitJob → List ℕ → Told
told_of job bytes = stream_in job.first job.end bytes

-- the lines without their numbers
abbrev pub lines_of : Told → List (List ℕ)
lines_of told = map (λ line. line.1) told.keys

-- The outcome of these lines with the fault at their end: each shard has its share of the lines before the fault. The counts are those
-- of the shares, and the file of the counts is empty if there is a fault.
abbrev pub splitting : SplitJob → Files → List (List ℕ) → Option KeyFault → Outcome
splitting job files lines None = record {
  status = 0;
  out = [];
  err = [];
  files = placed job.dir (shares (route_of job) job.end lines) (counts_text (share_counts (route_of job) lines)) files;
}
splitting job files lines (Some fault) = record {
  status = 8;
  out = [];
  err = line_fault_message job.keys fault;
  files = placed job.dir (shares (route_of job) job.end lines) [] files;
}

-- the outcome over the bytes of the keys file
unfoldable pub outcome_over : SplitJob → Files → List ℕ → Outcome
outcome_over job files bytes = splitting job files (lines_of (told_of job bytes)) (told_of job bytes).fault

-- the outcome, if the keys file is there
abbrev pub outcome_of : SplitJob → Files → Option Outcome
outcome_of job files = option_map (outcome_over job files) (file_at files job.keys)
