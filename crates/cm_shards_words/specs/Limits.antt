-- The ranges of what the program of shards is asked for.
use Rattle.std.specs.Prelude.{◌≤◌, ℕ, length}
use Rattle.std.specs.Option.{ForSome}
use Rattle.cm_route.specs.declared.route.TheConstants.{MAX_SHARDS}
use Rattle.cm_shards_words.specs.declared.jobs.AskJob.{AskJob}
use Rattle.cm_shards_words.specs.declared.jobs.JoinJob.{JoinJob}
use Rattle.cm_shards_words.specs.declared.jobs.ShardsJob.{ShardsJob}
use Rattle.cm_shards_words.specs.declared.jobs.ShardsJob.TheVariants.{Ask, Join, Split}
use Rattle.cm_shards_words.specs.declared.jobs.SplitJob.{SplitJob}
use Rattle.cm_shards_words.specs.declared.values.Values.{Values}
use Rattle.cm_words_values.specs.Limits.{IsEnd, IsFirst}

-- how many shards there are
abbrev pub IsShardCount : ℕ → Type 0
IsShardCount n = (1 ≤ n) × (n ≤ MAX_SHARDS)

pub record AreValues (v : Values) : Type 0 where
  pub first : IsFirst v.first
  pub shards : ForSome v.shards IsShardCount

-- The ranges of a split's numbers, and the byte that ends its lines.
pub record IsSplitJob (job : SplitJob) : Type 0 where
  pub shards : IsShardCount job.shards
  pub first : IsFirst job.first
  pub end : IsEnd job.end

-- how many functions are joined
pub record IsJoinJob (job : JoinJob) : Type 0 where
  pub functions : IsShardCount (length job.functions)

-- The number of lines of a query or a test, and the byte that ends them.
pub record IsAskJob (job : AskJob) : Type 0 where
  pub first : IsFirst job.first
  pub end : IsEnd job.end

abbrev pub IsShardsJob : ShardsJob → Type 0
IsShardsJob (Split job) = IsSplitJob job
IsShardsJob (Join job) = IsJoinJob job
IsShardsJob (Ask job) = IsAskJob job
