-- What a test, which has a build, does to the disk's spill.
use Rattle.std.specs.Prelude.{◌≡◌, ℕ, List, [], ◌∷◌, Option, Ok}
use Rattle.cm_algo_names.specs.declared.algorithm.Algorithm.{Algorithm}
use Rattle.cm_func.specs.declared.function.Func.{Func}
use Rattle.cm_tool_builds.specs.Spills.{HasSpilled, UnlessSpilled}
use Rattle.cm_tool.specs.Tested.{generated, test_result}
use Rattle.cm_words.specs.declared.jobs.TestJob.{TestJob}

-- An algorithm was tested: the spill that was handed back is that of the build of its function over the generated keys, if it is BRZ.
pub record TestSpilled (job : TestJob) (algorithm : Algorithm) (old new : Option (List ℕ)) : Type 0 where
  pub f : Func
  pub built : test_result job algorithm ≡ Ok f
  pub spilled : HasSpilled f (generated job.keys).keys old new
  pub unspilled : UnlessSpilled algorithm (new ≡ old)

-- The same of some algorithms, one after another.
abbrev pub TestsSpilled : TestJob → List Algorithm → Option (List ℕ) → Option (List ℕ) → Type 0
TestsSpilled job [] old new = new ≡ old
TestsSpilled job (algorithm ∷ next) old new = (mid : Option (List ℕ)) × TestSpilled job algorithm old mid × TestsSpilled job next mid new
