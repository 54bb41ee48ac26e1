-- The values of the options that builds by the graphs of BDZ share, and their ranges.
use Rattle.std.specs.Prelude.{List, codes, Ok}
use Rattle.clap.specs.Words.{Row, first_of}
use Rattle.cm_algo_names.specs.declared.algorithm.Algorithm.TheVariants.{Bdz}
use Rattle.cm_spec.specs.Rule.{IsRatio}
use Rattle.cm_words_arguments.specs.declared.builds.BuildValues.{BuildValues}
use Rattle.cm_words_values.specs.Limits.{IsCount, IsFirst}
use Rattle.cm_words_values.specs.Options.{Checked, and_then, count_value, first_value, ratio_value, seed_value}

-- the values of these options, or the first fault in the order of the letters c, k, r, s
abbrev pub build_values_of : List Row → Checked BuildValues
build_values_of rows =
    and_then (ratio_value Bdz (first_of (codes "ratio") rows)) (λ c.
    and_then (first_value (first_of (codes "first") rows)) (λ first.
    and_then (count_value (first_of (codes "count") rows)) (λ count.
    and_then (seed_value (first_of (codes "seed") rows)) (λ seed. Ok (record { c = c; first = first; count = count; seed = seed })))))

pub record AreBuildValues (v : BuildValues) : Type 0 where
  pub ratio : IsRatio v.c
  pub first : IsFirst v.first
  pub count : IsCount v.count
