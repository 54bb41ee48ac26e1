-- The values of the options among what clap found.
use Rattle.std.specs.Prelude.{ℕ, List, codes, Option, Ok}
use Rattle.clap.specs.Words.{Row, Text, first_of}
use Rattle.cm_filter.specs.declared.limits.TheConstants.{MAX_FINGERPRINT, MIN_FINGERPRINT}
use Rattle.cm_filter_words.specs.declared.values.Values.{Values}
use Rattle.cm_words_arguments.specs.Builds.{build_values_of}
use Rattle.cm_words_values.specs.Options.{Checked, and_then, number_value}

-- -w: how many bits a fingerprint has
abbrev pub width_value : Option Text → Checked ℕ
width_value = number_value 119 MIN_FINGERPRINT MAX_FINGERPRINT 8

-- the values of all options, or the first fault in the order of the letters c, k, r, s, w
abbrev pub values_of : List Row → Checked Values
values_of rows =
    and_then (build_values_of rows) (λ build.
    and_then (width_value (first_of (codes "width") rows)) (λ w. Ok (record { build = build; w = w })))
