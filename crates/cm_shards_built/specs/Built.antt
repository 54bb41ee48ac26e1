-- The file of a shard, a build by `cmph` over it, and what that saves.
use Rattle.std.specs.Prelude.{◌≡◌, ◌≢◌, ℕ, List, length, None, Some, Ok}
use Rattle.cm_algo_names.specs.declared.algorithm.Algorithm.TheVariants.{BdzPh}
use Rattle.cm_dump.specs.Spelling.{spelling_of}
use Rattle.cm_func.specs.Functions.{IsFunction, span_by}
use Rattle.cm_func.specs.declared.function.Func.{Func}
use Rattle.cm_io.specs.Files.{Files, file_at}
use Rattle.cm_io.specs.States.{Outside}
use Rattle.cm_shards.specs.Numbered.{IsBuiltOver, shard_keys}
use Rattle.cm_shards_split.specs.Names.{shard_path}
use Rattle.cm_shards_split.specs.Outcomes.{lines_of, route_of, told_of}
use Rattle.cm_shards_split.specs.Shares.{share_bytes}
use Rattle.cm_shards_words.specs.declared.jobs.SplitJob.{SplitJob}
use Rattle.cm_tool.specs.Runs.{Runs}
use Rattle.cm_words.specs.declared.jobs.BuildJob.{BuildJob}
use Rattle.cm_words.specs.declared.jobs.Job.TheVariants.{Build}

-- The file of shard k has its share of the lines of a keys file with these bytes.
pub record HasShard (job : SplitJob) (bytes : List ℕ) (k : ℕ) (new : Outside) : Type 0 where
  pub files : Files
  pub known : new.disk.files ≡ Some files
  pub share : file_at files (shard_path job.dir k) ≡ Some (share_bytes (route_of job) job.end (lines_of (told_of job bytes)) k)

-- A run of `cmph` with status 0 for a build over all lines of a file, which end as those of the split do. The file is that of shard k,
-- after the split of a keys file with these bytes.
pub record BuildsShard (job : SplitJob) (bytes : List ℕ) (k : ℕ) (build : BuildJob) (old new : Outside) : Type 0 where
  pub runs : Runs (Ok (Build build)) old new 0
  pub all : build.first ≡ None
  pub end : build.end ≡ job.end
  pub files : Files
  pub known : old.disk.files ≡ Some files
  pub over : file_at files build.keys ≡ Some (share_bytes (route_of job) job.end (lines_of (told_of job bytes)) k)

-- The function file spells a function that was built over the file of the shard. It leaves no number out, unless it is one by BDZ_PH.
pub record SavesShard (job : SplitJob) (bytes : List ℕ) (k : ℕ) (build : BuildJob) (new : Outside) : Type 0 where
  pub files : Files
  pub known : new.disk.files ≡ Some files
  pub dump : List ℕ
  pub there : file_at files build.function ≡ Some dump
  pub f : Func
  pub spells : spelling_of dump ≡ Ok f
  pub valid : IsFunction f
  pub built : IsBuiltOver job bytes k f
  pub full : build.algorithm ≢ BdzPh → span_by f ≡ length (shard_keys job bytes k).keys
