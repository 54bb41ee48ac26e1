-- What a build makes of keys: a function, or a report on why there is none.
use Rattle.std.specs.Prelude.{ℕ, List, length, Option, None, Some, Result, Ok, Err}
use Rattle.cm_algo_names.specs.declared.algorithm.Algorithm.{Algorithm}
use Rattle.cm_algo_names.specs.declared.algorithm.Algorithm.TheVariants.{Chm, Bdz, BdzPh, Brz}
use Rattle.cm_bdz.specs.Numbering.{bdz_under, bdz_ph_under}
use Rattle.cm_brz.specs.Found.{brz_under, bucket_report, first_cored, overfull_report}
use Rattle.cm_brz_split.specs.Split.{split_of}
use Rattle.cm_brz_func.specs.Functions.{bucket_count}
use Rattle.cm_func.specs.declared.function.Func.{Func}
use Rattle.cm_func.specs.declared.function.Func.TheVariants as func
use Rattle.cm_spec.specs.Bdz.{bdz_rule, bdz_ph_rule}
use Rattle.cm_spec.specs.Built.{chm_under, first_seed}
use Rattle.cm_spec.specs.Chm.{chm_rule}
use Rattle.cm_spec.specs.Rule.{Rule}
use Rattle.cm_tool_cells.specs.Recipes.{report_by, seeded}
use Rattle.cm_witness_gather.specs.declared.failure.SeedFailure.TheVariants.{NoSeed, NoSeedFor, NoSplit}
use Rattle.cm_witness_gather.specs.declared.failure.SeedFailure.{SeedFailure}

-- what is shown of keys that have no function: why, and the report
pub record FailureReport : Type 0 where
  pub failure : SeedFailure
  pub report : List ℕ

-- what is shown of keys for which no seed of a list works
abbrev pub unseeded : Algorithm → Rule → List (ℕ × List ℕ) → ℕ → List ℕ → FailureReport
unseeded algorithm r keys c seeds = record { failure = NoSeed; report = report_by algorithm r keys c seeds }

-- the function under the first seed that works
abbrev pub result_under : Algorithm → Rule → (ℕ → Func) → List (ℕ × List ℕ) → ℕ → List ℕ → Result Func FailureReport
result_under algorithm r function keys c seeds = seeded function (unseeded algorithm r keys c seeds) (first_seed r keys c seeds)

-- by BRZ, under a seed that splits the keys into k buckets: the lowest bucket for which no seed works, if there is one
abbrev pub filled : List (ℕ × List ℕ) → ℕ → ℕ → List ℕ → ℕ → Option ℕ → Result Func FailureReport
filled keys c b seeds split None = Ok (func.Brz (brz_under keys c b split seeds))
filled keys c b seeds split (Some bucket) = Err (record { failure = NoSeedFor bucket; report = bucket_report keys (bucket_count (length keys) b) c split bucket seeds })

-- and under the first seed that splits them
abbrev pub split_into : List (ℕ × List ℕ) → ℕ → ℕ → List ℕ → Option ℕ → Result Func FailureReport
split_into keys c b seeds None = Err (record { failure = NoSplit; report = overfull_report keys (bucket_count (length keys) b) seeds })
split_into keys c b seeds (Some split) = filled keys c b seeds split (first_cored keys (bucket_count (length keys) b) c split seeds)

-- by an algorithm with its parameter b, for a ratio in millionths and a list of seeds
abbrev pub result_by : Algorithm → ℕ → List (ℕ × List ℕ) → ℕ → List ℕ → Result Func FailureReport
result_by Chm b keys c seeds = result_under Chm chm_rule (λ seed. func.Chm (chm_under keys c seed)) keys c seeds
result_by Bdz b keys c seeds = result_under Bdz bdz_rule (λ seed. func.Bdz (bdz_under keys c seed b)) keys c seeds
result_by BdzPh b keys c seeds = result_under BdzPh bdz_ph_rule (λ seed. func.BdzPh (bdz_ph_under keys c seed)) keys c seeds
result_by Brz b keys c seeds = split_into keys c b seeds (split_of keys (bucket_count (length keys) b) seeds)
