-- What arguments mean: a job, or a fault.
use Rattle.std.specs.Prelude.{List, codes, Ok, if◌then◌else◌}
use Rattle.clap.specs.Words.{Row, Text}
use Rattle.cm_store_words.specs.Command.{store_app}
use Rattle.cm_store_words.specs.Options.{values_of}
use Rattle.cm_store_words.specs.declared.jobs.StoreBuild.{StoreBuild}
use Rattle.cm_store_words.specs.declared.jobs.StoreJob.{StoreJob}
use Rattle.cm_store_words.specs.declared.jobs.StoreJob.TheVariants.{Build, Look}
use Rattle.cm_store_words.specs.declared.jobs.StoreLook.{StoreLook}
use Rattle.cm_store_words.specs.declared.values.Values.{Values}
use Rattle.cm_words_arguments.specs.Files.{files_of}
use Rattle.cm_words_arguments.specs.Options.{Read, as_usage, is_set}
use Rattle.cm_words_arguments.specs.Refusals.{read_by}
use Rattle.cm_words_arguments.specs.declared.files.Files.{Files}
use Rattle.cm_words_values.specs.Options.{and_then}

abbrev pub build_of : Values → Files → StoreBuild
build_of v files = record {
  lines = files.input;
  store = files.made;
  first = files.first;
  end = files.end;
  c = v.build.c;
  b = v.b;
  seed = v.build.seed;
  count = v.build.count;
}

abbrev pub look_of : Files → StoreLook
look_of files = record { keys = files.input; store = files.made; first = files.first; end = files.end }

-- the job of the arguments that clap found: a build, if that is asked for, or else a look-up
abbrev pub job_of_rows : List Row → Read StoreJob
job_of_rows rows =
    and_then (as_usage (values_of rows)) (λ v.
    and_then (files_of (codes ".rec") v.build.first rows) (λ files.
    Ok (if is_set (codes "generate") rows then Build (build_of v files) else Look (look_of files))))

-- the job of the arguments, of which the first is the program's name
unfoldable pub job_of : List Text → Read StoreJob
job_of words = read_by store_app job_of_rows words
