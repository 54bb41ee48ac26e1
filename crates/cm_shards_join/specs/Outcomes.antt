-- What a join comes to, by the files.
use Rattle.std.specs.Prelude.{[], Option, option_map, Result, Ok, Err}
use Rattle.std.specs.FinMap as map
use Rattle.cm_io.specs.Files.{Files}
use Rattle.cm_shards_join.specs.Taking.{join_of}
use Rattle.cm_shards_join.specs.Texts.{message_of, status_of}
use Rattle.cm_shards_join.specs.declared.stop.JoinStop.{JoinStop}
use Rattle.cm_shards_manifest.specs.ManifestBytes.{manifest_bytes}
use Rattle.cm_shards_manifest.specs.Manifests.{Manifest}
use Rattle.cm_shards_words.specs.declared.jobs.JoinJob.{JoinJob}
use Rattle.cm_tool_stops.specs.Ending.{Outcome, refusal}

-- the manifest is saved, and nothing is said
abbrev pub saving : JoinJob → Files → Manifest → Outcome
saving job files m = record { status = 0; out = []; err = []; files = map.insert files job.manifest (manifest_bytes m) }

abbrev pub outcome_by : JoinJob → Files → Result Manifest JoinStop → Outcome
outcome_by job files (Ok m) = saving job files m
outcome_by job files (Err stop) = refusal (status_of stop) (message_of job stop) files

-- the outcome, if the files that are needed are there
abbrev pub outcome_of : JoinJob → Files → Option Outcome
outcome_of job files = option_map (outcome_by job files) (join_of job files)
