-- What arguments mean: a job, or a fault.
use Rattle.std.specs.Prelude.{List, codes, Option, Some, Ok, Err}
use Rattle.clap.specs.Words.{Row, Text, first_of}
use Rattle.cm_judge_words.specs.Command.{judge_app}
use Rattle.cm_judge_words.specs.Options.{values_of}
use Rattle.cm_judge_words.specs.declared.job.JudgeJob.{JudgeJob}
use Rattle.cm_judge_words.specs.declared.values.Values.{Values}
use Rattle.cm_words_arguments.specs.Options.{Read, as_usage, end_of}
use Rattle.cm_words_arguments.specs.Refusals.{read_by}
use Rattle.cm_words_arguments.specs.declared.fault.UsageFault.TheVariants.{Words}
use Rattle.cm_words_values.specs.Options.{and_then}

-- the report and the keys file, which clap requires
abbrev pub job_over : Option Text → Option Text → Values → List Row → Read JudgeJob
job_over (Some report) (Some keys) v rows = Ok (record { report = report; keys = keys; first = v.first; end = end_of rows; c = v.c; b = v.b })
job_over _ _ v rows = Err Words

-- the job of the arguments that clap found
abbrev pub job_of_rows : List Row → Read JudgeJob
job_of_rows rows = and_then (as_usage (values_of rows)) (λ v. job_over (first_of (codes "report") rows) (first_of (codes "keys") rows) v rows)

-- the job of the arguments, of which the first is the program's name
unfoldable pub job_of : List Text → Read JudgeJob
job_of words = read_by judge_app job_of_rows words
