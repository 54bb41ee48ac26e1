-- The values of the options among what clap found.
use Rattle.std.specs.Prelude.{ℕ, List, codes, Option, None, Some, Ok, true}
use Rattle.clap.specs.Words.{Row, Text, first_of}
use Rattle.cm_algo_names.specs.declared.algorithm.Algorithm.TheVariants.{Brz, Chm}
use Rattle.cm_judge_words.specs.declared.values.Values.{Values}
use Rattle.cm_words_values.specs.Options.{Checked, and_then, bits_value, first_value, ratio_value}

-- the ratio in millionths, if it is given
abbrev pub ratio_option : Option Text → Checked (Option ℕ)
ratio_option None = Ok None
ratio_option (Some text) = and_then (ratio_value Chm (Some text)) (λ c. Ok (Some c))

-- the values of all options, or the first fault in the order of the letters b, c, k
abbrev pub values_of : List Row → Checked Values
values_of rows =
    and_then (bits_value true Brz (first_of (codes "width") rows)) (λ b.
    and_then (ratio_option (first_of (codes "ratio") rows)) (λ c.
    and_then (first_value (first_of (codes "first") rows)) (λ first. Ok (record { b = b; c = c; first = first }))))
