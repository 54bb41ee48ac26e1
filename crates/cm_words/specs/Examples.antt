-- Arguments and jobs that the worked examples are about.
use Rattle.std.specs.Prelude.{◌++◌, codes, false, None}
use Rattle.clap.specs.Words.{Text}
use Rattle.cm_algo_names.specs.declared.algorithm.Algorithm.TheVariants.{Chm}
use Rattle.cm_words.specs.declared.jobs.BuildJob.{BuildJob}
use Rattle.cm_words.specs.declared.jobs.QueryJob.{QueryJob}
use Rattle.cm_words.specs.declared.jobs.TestJob.{TestJob}
use Rattle.cm_words.specs.declared.jobs.UpgradeJob.{UpgradeJob}
use Rattle.cm_words_values.specs.declared.limits.TheConstants.{LINE_FEED}

-- the query of `cmph keys`
abbrev pub plain_query : QueryJob
plain_query = record { keys = codes "keys"; function = codes "keys.mph"; first = None; end = LINE_FEED }

-- the query of another file
abbrev pub query_of_file : Text → QueryJob
query_of_file path = record { keys = path; function = path ++ codes ".mph"; first = None; end = LINE_FEED }

-- the build of `cmph -g keys`
abbrev pub plain_build : BuildJob
plain_build = record {
  keys = codes "keys";
  function = codes "keys.mph";
  first = None;
  end = LINE_FEED;
  algorithm = Chm;
  c = 2090000;
  b = 0;
  seed = 1;
  count = 100;
  buffer = 1048576;
  dir = codes ".";
  verbose = false;
}

-- the upgrade of a function file
abbrev pub upgrade_of_file : Text → UpgradeJob
upgrade_of_file path = record { function = path }

-- the test of `cmph -T 5`
abbrev pub plain_test : TestJob
plain_test = record { keys = 5; seed = 1; count = 100; buffer = 1048576; dir = codes "." }
