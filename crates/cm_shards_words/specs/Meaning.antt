-- What arguments mean: a job, or a fault.
use Rattle.std.specs.Prelude.{ℕ, Bool, List, [], ◌∷◌, codes, Option, Some, None, Ok, Err, if◌then◌else◌, length, nat_le}
use Rattle.clap.specs.Words.{Row, Text, all_of, first_of}
use Rattle.cm_route.specs.declared.route.TheConstants.{MAX_SHARDS}
use Rattle.cm_shards_words.specs.Command.{shards_app}
use Rattle.cm_shards_words.specs.Options.{values_of}
use Rattle.cm_shards_words.specs.declared.jobs.AskJob.{AskJob}
use Rattle.cm_shards_words.specs.declared.jobs.JoinJob.{JoinJob}
use Rattle.cm_shards_words.specs.declared.jobs.ShardsJob.{ShardsJob}
use Rattle.cm_shards_words.specs.declared.jobs.ShardsJob.TheVariants.{Ask, Join, Split}
use Rattle.cm_shards_words.specs.declared.jobs.SplitJob.{SplitJob}
use Rattle.cm_shards_words.specs.declared.values.Values.{Values}
use Rattle.cm_words_arguments.specs.Options.{Read, as_usage, end_of, is_set}
use Rattle.cm_words_arguments.specs.Refusals.{read_by}
use Rattle.cm_words_arguments.specs.declared.fault.UsageFault.TheVariants.{Words}
use Rattle.cm_words_values.specs.Options.{and_then}

-- the one file, if there are no others
abbrev pub only : List Text → Option Text
only (file ∷ []) = Some file
only _ = None

-- a split needs a folder, and exactly one file
abbrev pub split_over : Option Text → Option Text → ℕ → Option ℕ → ℕ → Read SplitJob
split_over (Some dir) (Some keys) shards first end = Ok (record { keys = keys; dir = dir; shards = shards; first = first; end = end })
split_over _ _ shards first end = Err Words

-- a join needs a manifest, and at most as many files as there may be shards
abbrev pub join_over : Option Text → List Text → Option Text → Read JoinJob
join_over None files dir = Err Words
join_over (Some manifest) files dir = if nat_le (length files) MAX_SHARDS
    then Ok (record { manifest = manifest; dir = dir; functions = files }) else Err Words

-- a query or a test needs a manifest, and exactly one file
abbrev pub ask_over : Option Text → Option Text → Option ℕ → ℕ → Bool → Read AskJob
ask_over (Some manifest) (Some keys) first end test = Ok (record { manifest = manifest; keys = keys; first = first; end = end; test = test })
ask_over _ _ first end test = Err Words

abbrev pub split_of : ℕ → Option ℕ → List Text → List Row → Read SplitJob
split_of shards first files rows = split_over (first_of (codes "dir") rows) (only files) shards first (end_of rows)

abbrev pub join_of : List Text → List Row → Read JoinJob
join_of files rows = join_over (first_of (codes "manifest") rows) files (first_of (codes "dir") rows)

abbrev pub ask_of : Option ℕ → List Text → List Row → Read AskJob
ask_of first files rows = ask_over (first_of (codes "manifest") rows) (only files) first (end_of rows) (is_set (codes "test") rows)

-- a split if a number of shards is given, or else a query or a test
abbrev pub split_or_ask : Option ℕ → Option ℕ → List Text → List Row → Read ShardsJob
split_or_ask (Some shards) first files rows = and_then (split_of shards first files rows) (λ job. Ok (Split job))
split_or_ask None first files rows = and_then (ask_of first files rows) (λ job. Ok (Ask job))

-- a join if that is asked for, or else a split, a query or a test
abbrev pub job_over : Values → List Text → List Row → Read ShardsJob
job_over v files rows = if is_set (codes "join") rows
    then and_then (join_of files rows) (λ job. Ok (Join job))
    else split_or_ask v.shards v.first files rows

-- the files, of which clap requires one
abbrev pub given : Option (List Text) → Read (List Text)
given (Some (file ∷ files)) = Ok (file ∷ files)
given _ = Err Words

abbrev pub files_of : List Row → Read (List Text)
files_of rows = given (all_of (codes "files") rows)

-- the job of the arguments that clap found
abbrev pub job_of_rows : List Row → Read ShardsJob
job_of_rows rows =
    and_then (as_usage (values_of rows)) (λ v.
    and_then (files_of rows) (λ files. job_over v files rows))

-- the job of the arguments, of which the first is the program's name
unfoldable pub job_of : List Text → Read ShardsJob
job_of words = read_by shards_app job_of_rows words
