-- The values of the options among what clap found.
use Rattle.std.specs.Prelude.{List, codes, Ok, true}
use Rattle.clap.specs.Words.{Row, first_of}
use Rattle.cm_algo_names.specs.declared.algorithm.Algorithm.TheVariants.{Bdz}
use Rattle.cm_store_words.specs.declared.values.Values.{Values}
use Rattle.cm_words_arguments.specs.Builds.{build_values_of}
use Rattle.cm_words_values.specs.Options.{Checked, and_then, bits_value}

-- the values of all options, or the first fault in the order of the letters b, c, k, r, s
abbrev pub values_of : List Row → Checked Values
values_of rows =
    and_then (bits_value true Bdz (first_of (codes "bits") rows)) (λ b.
    and_then (build_values_of rows) (λ build. Ok (record { b = b; build = build })))
