-- The ranges of what a job asks for.
use Rattle.std.specs.Prelude.{◌≡◌, Bool, true}
use Rattle.std.specs.Option.{ForSome}
use Rattle.cm_algo_names.specs.declared.algorithm.Algorithm.TheVariants.{Bdz, Brz}
use Rattle.cm_words_values.specs.Limits.{AreInRange, IsBuffer, IsCount, IsEnd, IsFirst, IsTestSize}
use Rattle.cm_words.specs.declared.jobs.BuildJob.{BuildJob}
use Rattle.cm_words.specs.declared.jobs.Job.{Job}
use Rattle.cm_words.specs.declared.jobs.Job.TheVariants.{Build, Query, Test}
use Rattle.cm_words.specs.declared.jobs.QueryJob.{QueryJob}
use Rattle.cm_words.specs.declared.jobs.TestJob.{TestJob}
use Rattle.cm_words.specs.declared.values.Values.{Values}

-- the values of the options, of which the sampling counts in a build by bdz alone, and the average size of a bucket in one by brz
abbrev pub AreValues : Bool → Values → Type 0
AreValues builds v = AreInRange ((builds ≡ true) × (v.algorithm ≡ Bdz)) ((builds ≡ true) × (v.algorithm ≡ Brz)) v.ratio v.bits v.count v.buffer v.first × ForSome v.test IsTestSize

-- The ranges of a build's numbers, and the byte that ends its lines.
pub record IsBuild (job : BuildJob) : Type 0 where
  pub numbers : AreInRange (job.algorithm ≡ Bdz) (job.algorithm ≡ Brz) job.c job.b job.count job.buffer job.first
  pub end : IsEnd job.end

-- The number of a query's lines, and the byte that ends them.
pub record IsQuery (job : QueryJob) : Type 0 where
  pub first : IsFirst job.first
  pub end : IsEnd job.end

-- The ranges of a test's numbers: how many keys, how many seeds, and the buffer in bytes.
pub record IsTest (job : TestJob) : Type 0 where
  pub keys : IsTestSize job.keys
  pub count : IsCount job.count
  pub buffer : IsBuffer job.buffer

abbrev pub IsJob : Job → Type 0
IsJob (Build job) = IsBuild job
IsJob (Query job) = IsQuery job
IsJob (Test job) = IsTest job
IsJob _ = Unit {0}
