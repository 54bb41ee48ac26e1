-- What arguments mean: a job, or a fault.
use Rattle.std.specs.Prelude.{ℕ, List, codes, Option, Some, None, Ok, Err, if◌then◌else◌, unwrap_or}
use Rattle.clap.specs.Words.{Row, Text, first_of}
use Rattle.cm_words.specs.Command.{cmph_app}
use Rattle.cm_words_values.specs.Options.{and_then}
use Rattle.cm_words_arguments.specs.Options.{Read, as_usage, end_of, is_counted, is_set, path_or}
use Rattle.cm_words_arguments.specs.Refusals.{read_by}
use Rattle.cm_words_arguments.specs.declared.fault.UsageFault.TheVariants.{NoFile}
use Rattle.cm_words.specs.Options.{values_of}
use Rattle.cm_words.specs.declared.jobs.BuildJob.{BuildJob}
use Rattle.cm_words.specs.declared.jobs.QueryJob.{QueryJob}
use Rattle.cm_words.specs.declared.jobs.TestJob.{TestJob}
use Rattle.cm_words.specs.declared.jobs.Job.{Job}
use Rattle.cm_words.specs.declared.jobs.Job.TheVariants.{Help, Version, Build, Query, Test, Upgrade}
use Rattle.cm_words.specs.declared.values.Values.{Values}

-- the function file: the one that is named, or that of the keys file
abbrev pub function_of : Option Text → Text → Text
function_of given keys = path_or given keys (codes ".mph")

abbrev pub directory_of : Option Text → Text
directory_of given = unwrap_or given (codes ".")

abbrev pub build_of : Values → Text → List Row → BuildJob
build_of v keys rows = record {
  keys = keys;
  function = function_of (first_of (codes "function") rows) keys;
  first = v.first;
  end = end_of rows;
  algorithm = v.algorithm;
  c = v.ratio;
  b = v.bits;
  seed = v.seed;
  count = v.count;
  buffer = v.buffer;
  dir = directory_of (first_of (codes "directory") rows);
  verbose = is_counted (codes "verbose") rows;
}

abbrev pub query_of : Values → Text → List Row → QueryJob
query_of v keys rows = record {
  keys = keys;
  function = function_of (first_of (codes "function") rows) keys;
  first = v.first;
  end = end_of rows;
}

abbrev pub test_of : ℕ → Values → List Row → TestJob
test_of keys v rows = record {
  keys = keys;
  seed = v.seed;
  count = v.count;
  buffer = v.buffer;
  dir = directory_of (first_of (codes "directory") rows);
}

-- an upgrade, if the keys file or the function file is named
abbrev pub upgrade_over : Option Text → Option Text → Read Job
upgrade_over given (Some keys) = Ok (Upgrade (record { function = function_of given keys }))
upgrade_over (Some path) None = Ok (Upgrade (record { function = path }))
upgrade_over None None = Err NoFile

-- a build or a query, if the keys file is named
abbrev pub job_over : Option Text → Values → List Row → Read Job
job_over None v rows = Err NoFile
job_over (Some keys) v rows = if is_set (codes "generate") rows then Ok (Build (build_of v keys rows))
    else Ok (Query (query_of v keys rows))

-- a test, if a number of keys is given, or else an upgrade, if that is asked for, or else a build or a query
abbrev pub job_by : Option ℕ → Values → List Row → Read Job
job_by (Some keys) v rows = Ok (Test (test_of keys v rows))
job_by None v rows = if is_set (codes "upgrade") rows then upgrade_over (first_of (codes "function") rows) (first_of (codes "keys") rows)
    else job_over (first_of (codes "keys") rows) v rows

-- the job of the arguments that clap found
abbrev pub job_of_rows : List Row → Read Job
job_of_rows rows = if is_set (codes "help") rows then Ok Help
    else (if is_set (codes "version") rows then Ok Version
    else and_then (as_usage (values_of rows)) (λ v. job_by v.test v rows))

-- the job of the arguments, of which the first is the program's name
unfoldable pub job_of : List Text → Read Job
job_of words = read_by cmph_app job_of_rows words
