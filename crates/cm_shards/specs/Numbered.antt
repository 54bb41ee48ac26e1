-- What the functions of the files of a split give all keys.
use Rattle.std.specs.Prelude.{◌≡◌, ◌<◌, ℕ, List, length, None}
use Rattle.cm_bdz.specs.Numbering.{AnswersApart}
use Rattle.cm_func.specs.Functions.{answer_by, span_by}
use Rattle.cm_func.specs.declared.function.Func.{Func}
use Rattle.cm_io.specs.Passes.{Told}
use Rattle.cm_keys.specs.Lines.{keys_in}
use Rattle.cm_shards_files.specs.Shards.{function_at}
use Rattle.cm_shards_split.specs.Outcomes.{lines_of, route_of, told_of}
use Rattle.cm_shards_split.specs.Shares.{share_bytes}
use Rattle.cm_shards_words.specs.declared.jobs.SplitJob.{SplitJob}

-- the keys that a build reads in the file of a shard, after a split of a keys file with these bytes
abbrev pub shard_keys : SplitJob → List ℕ → ℕ → Told
shard_keys job bytes k = keys_in None job.end (share_bytes (route_of job) job.end (lines_of (told_of job bytes)) k)

-- A function was built over the file of a shard: no key in it is at fault, and its keys have different answers below the span.
pub record IsBuiltOver (job : SplitJob) (bytes : List ℕ) (k : ℕ) (f : Func) : Type 0 where
  pub sound : (shard_keys job bytes k).fault ≡ None
  pub apart : AnswersApart (shard_keys job bytes k).keys (answer_by f) (span_by f)

-- there is such a function for each shard, in their order
pub record AreBuiltOver (job : SplitJob) (bytes : List ℕ) (functions : List Func) : Type 0 where
  pub each : length functions ≡ job.shards
  pub built : (k : ℕ) → k < job.shards → IsBuiltOver job bytes k (function_at functions k)

-- none of them has a span above the number of its keys
abbrev pub LeaveNone : SplitJob → List ℕ → List Func → Type 0
LeaveNone job bytes functions = (k : ℕ) → k < job.shards → span_by (function_at functions k) ≡ length (shard_keys job bytes k).keys
