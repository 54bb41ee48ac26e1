-- The function that a build gives of known keys.
use Rattle.std.specs.Prelude.{◌≡◌, ℕ, List, length, None, Ok}
use Rattle.cm_algo_names.specs.declared.algorithm.Algorithm.{Algorithm}
use Rattle.cm_func.specs.declared.function.Func.{Func}
use Rattle.cm_io.specs.Passes.{Told}
use Rattle.cm_spec.specs.Rule.{IsCount}
use Rattle.cm_tool_builds.specs.Results.{result_by}
use Rattle.cm_tool_builds.specs.Seeds.{IsMadeBy}

-- the function of keys with no fault at their end by an algorithm, with its parameter b
pub record IsFuncOf (algorithm : Algorithm) (b : ℕ) (told : Told) (c : ℕ) (seeds : List ℕ) (f : Func) : Type 0 where
  pub no_fault : told.fault ≡ None
  pub many : IsCount (length told.keys)
  pub result_is : result_by algorithm b told.keys c seeds ≡ Ok f
  pub made : IsMadeBy algorithm b told.keys c seeds f
