-- The seeds that a build takes, and why none works, by 2-cores.
use Rattle.std.specs.Prelude.{◌≡◌, ◌⊎◌, ℕ, List, length, Some}
use Rattle.cm_algo_names.specs.declared.algorithm.Algorithm.{Algorithm}
use Rattle.cm_algo_names.specs.declared.algorithm.Algorithm.TheVariants.{Chm, Bdz, BdzPh, Brz}
use Rattle.cm_bdz.specs.Numbering.{bdz_under, bdz_ph_under}
use Rattle.cm_brz.specs.BrzOf.{IsBrzOf}
use Rattle.cm_brz.specs.Found.{AllOverfull, first_cored}
use Rattle.cm_brz_func.specs.Splitting.{keys_of_bucket}
use Rattle.cm_brz_split.specs.Split.{split_of}
use Rattle.cm_brz_func.specs.Functions.{bucket_count}
use Rattle.cm_func.specs.declared.function.Func.{Func}
use Rattle.cm_func.specs.declared.function.Func.TheVariants as func
use Rattle.cm_spec.specs.Bdz.{bdz_rule, bdz_ph_rule}
use Rattle.cm_spec.specs.Built.{chm_under}
use Rattle.cm_spec.specs.Chm.{chm_rule}
use Rattle.cm_tool_cells.specs.Seeds.{IsCoredUnder, TakesFirst}

-- the function is that of the keys by the algorithm, with its parameter b, under the first seed of the list that works. By BRZ the
-- first that works splits the keys into buckets of at most MAX_BUCKET, and each bucket with keys has a first seed of its own.
abbrev pub IsMadeBy : Algorithm → ℕ → List (ℕ × List ℕ) → ℕ → List ℕ → Func → Type 0
IsMadeBy Chm b keys c seeds (func.Chm f) = (f ≡ chm_under keys c f.seed) × TakesFirst chm_rule keys c seeds f.seed
IsMadeBy Bdz b keys c seeds (func.Bdz f) = (f ≡ bdz_under keys c f.seed b) × TakesFirst bdz_rule keys c seeds f.seed
IsMadeBy BdzPh b keys c seeds (func.BdzPh f) = (f ≡ bdz_ph_under keys c f.seed) × TakesFirst bdz_ph_rule keys c seeds f.seed
IsMadeBy Brz b keys c seeds (func.Brz f) = IsBrzOf keys c b seeds f
IsMadeBy algorithm b keys c seeds f = ⊥

-- a seed splits the keys, the first of the list, and this is the lowest bucket, of k, with such graphs
pub record HasCoredBucket (keys : List (ℕ × List ℕ)) (k c : ℕ) (seeds : List ℕ) : Type 0 where
  pub split : ℕ
  pub bucket : ℕ
  pub chosen : split_of keys k seeds ≡ Some split
  pub lowest : first_cored keys k c split seeds ≡ Some bucket
  pub under : IsCoredUnder bdz_rule (keys_of_bucket keys k split bucket) c seeds

-- no seed of the list works for the keys. By BRZ each leaves an overfull bucket, or none works for some bucket.
abbrev pub NoneWorks : Algorithm → ℕ → List (ℕ × List ℕ) → ℕ → List ℕ → Type 0
NoneWorks Chm b keys c seeds = IsCoredUnder chm_rule keys c seeds
NoneWorks Bdz b keys c seeds = IsCoredUnder bdz_rule keys c seeds
NoneWorks BdzPh b keys c seeds = IsCoredUnder bdz_ph_rule keys c seeds
NoneWorks Brz b keys c seeds = AllOverfull keys (bucket_count (length keys) b) seeds ⊎ HasCoredBucket keys (bucket_count (length keys) b) c seeds
