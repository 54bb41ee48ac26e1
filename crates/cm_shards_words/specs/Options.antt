-- The values of the options among what clap found.
use Rattle.std.specs.Prelude.{ℕ, List, codes, Option, Ok}
use Rattle.clap.specs.Words.{Row, Text, first_of}
use Rattle.cm_route.specs.declared.route.TheConstants.{MAX_SHARDS}
use Rattle.cm_shards_words.specs.declared.values.Values.{Values}
use Rattle.cm_words_values.specs.Options.{Checked, and_then, first_value, optional_value}

-- -n
abbrev pub shards_value : Option Text → Checked (Option ℕ)
shards_value = optional_value 110 1 MAX_SHARDS

-- the values of all options, or the first fault in the order of the letters k, n
abbrev pub values_of : List Row → Checked Values
values_of rows =
    and_then (first_value (first_of (codes "first") rows)) (λ first.
    and_then (shards_value (first_of (codes "shards") rows)) (λ shards. Ok (record { first = first; shards = shards })))
