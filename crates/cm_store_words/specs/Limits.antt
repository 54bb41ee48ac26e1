-- The ranges of what the record store is asked for.
use Rattle.cm_spec.specs.Rule.{IsRatio}
use Rattle.cm_store_words.specs.declared.jobs.StoreBuild.{StoreBuild}
use Rattle.cm_store_words.specs.declared.jobs.StoreJob.{StoreJob}
use Rattle.cm_store_words.specs.declared.jobs.StoreJob.TheVariants.{Build, Look}
use Rattle.cm_store_words.specs.declared.jobs.StoreLook.{StoreLook}
use Rattle.cm_store_words.specs.declared.values.Values.{Values}
use Rattle.cm_words_arguments.specs.Builds.{AreBuildValues}
use Rattle.cm_words_values.specs.Limits.{IsCount, IsEnd, IsFirst, IsSampling}

pub record AreValues (v : Values) : Type 0 where
  pub sampling : IsSampling v.b
  pub build : AreBuildValues v.build

-- The ranges of a build's numbers, and the byte that ends its lines.
pub record IsStoreBuild (job : StoreBuild) : Type 0 where
  pub ratio : IsRatio job.c
  pub sampling : IsSampling job.b
  pub first : IsFirst job.first
  pub count : IsCount job.count
  pub end : IsEnd job.end

-- The number of lines of a look-up, and the byte that ends them.
pub record IsStoreLook (job : StoreLook) : Type 0 where
  pub first : IsFirst job.first
  pub end : IsEnd job.end

abbrev pub IsStoreJob : StoreJob → Type 0
IsStoreJob (Build job) = IsStoreBuild job
IsStoreJob (Look job) = IsStoreLook job
