-- What arguments mean: a job, or a fault.
use Rattle.std.specs.Prelude.{List, codes, Ok, if◌then◌else◌}
use Rattle.clap.specs.Words.{Row, Text}
use Rattle.cm_filter_words.specs.Command.{filter_app}
use Rattle.cm_filter_words.specs.Options.{values_of}
use Rattle.cm_filter_words.specs.declared.jobs.FilterBuild.{FilterBuild}
use Rattle.cm_filter_words.specs.declared.jobs.FilterJob.{FilterJob}
use Rattle.cm_filter_words.specs.declared.jobs.FilterJob.TheVariants.{Build, Test}
use Rattle.cm_filter_words.specs.declared.jobs.FilterTest.{FilterTest}
use Rattle.cm_filter_words.specs.declared.values.Values.{Values}
use Rattle.cm_words_arguments.specs.Files.{files_of}
use Rattle.cm_words_arguments.specs.Options.{Read, as_usage, is_set}
use Rattle.cm_words_arguments.specs.Refusals.{read_by}
use Rattle.cm_words_arguments.specs.declared.files.Files.{Files}
use Rattle.cm_words_values.specs.Options.{and_then}

abbrev pub build_of : Values → Files → FilterBuild
build_of v files = record {
  keys = files.input;
  filter = files.made;
  first = files.first;
  end = files.end;
  c = v.build.c;
  seed = v.build.seed;
  count = v.build.count;
  w = v.w;
}

abbrev pub test_of : Files → FilterTest
test_of files = record { keys = files.input; filter = files.made; first = files.first; end = files.end }

-- the job of the arguments that clap found: a build, if that is asked for, or else a test of keys
abbrev pub job_of_rows : List Row → Read FilterJob
job_of_rows rows =
    and_then (as_usage (values_of rows)) (λ v.
    and_then (files_of (codes ".flt") v.build.first rows) (λ files.
    Ok (if is_set (codes "generate") rows then Build (build_of v files) else Test (test_of files))))

-- the job of the arguments, of which the first is the program's name
unfoldable pub job_of : List Text → Read FilterJob
job_of words = read_by filter_app job_of_rows words
