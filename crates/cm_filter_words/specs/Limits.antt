-- The ranges of what the program of filters is asked for.
use Rattle.cm_filter.specs.Filters.{IsFingerprint}
use Rattle.cm_filter_words.specs.declared.jobs.FilterBuild.{FilterBuild}
use Rattle.cm_filter_words.specs.declared.jobs.FilterJob.{FilterJob}
use Rattle.cm_filter_words.specs.declared.jobs.FilterJob.TheVariants.{Build, Test}
use Rattle.cm_filter_words.specs.declared.jobs.FilterTest.{FilterTest}
use Rattle.cm_filter_words.specs.declared.values.Values.{Values}
use Rattle.cm_spec.specs.Rule.{IsRatio}
use Rattle.cm_words_arguments.specs.Builds.{AreBuildValues}
use Rattle.cm_words_values.specs.Limits.{IsCount, IsEnd, IsFirst}

pub record AreValues (v : Values) : Type 0 where
  pub build : AreBuildValues v.build
  pub width : IsFingerprint v.w

-- The ranges of a build's numbers, and the byte that ends its lines.
pub record IsFilterBuild (job : FilterBuild) : Type 0 where
  pub ratio : IsRatio job.c
  pub first : IsFirst job.first
  pub count : IsCount job.count
  pub width : IsFingerprint job.w
  pub end : IsEnd job.end

-- The number of lines of a test of keys, and the byte that ends them.
pub record IsFilterTest (job : FilterTest) : Type 0 where
  pub first : IsFirst job.first
  pub end : IsEnd job.end

abbrev pub IsFilterJob : FilterJob → Type 0
IsFilterJob (Build job) = IsFilterBuild job
IsFilterJob (Test job) = IsFilterTest job
