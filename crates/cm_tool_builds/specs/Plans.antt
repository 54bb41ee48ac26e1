-- How a function is built.
use Rattle.std.specs.Prelude.{◌≡◌, ◌≤◌}
use Rattle.cm_algo_names.specs.declared.algorithm.Algorithm.TheVariants.{Bdz, Brz}
use Rattle.cm_spec.specs.Rule.{IsRatio}
use Rattle.cm_spec.specs.declared.limits.TheConstants.{MAX_WIDTH, MIN_WIDTH}
use Rattle.cm_spill.specs.declared.runs.TheConstants.{MAX_BYTES, MIN_BYTES}
use Rattle.cm_tool_builds.specs.declared.plan.Plan.{Plan}

-- The ranges of a plan's numbers: the ratio in millionths, the sampling of ranks if they are sampled, the average size of a bucket if the
-- keys are split, and the buffer in bytes.
pub record IsPlan (plan : Plan) : Type 0 where
  pub ratio : IsRatio plan.c
  pub sampling : plan.algorithm ≡ Bdz → (3 ≤ plan.b) × (plan.b ≤ 10)
  pub width : plan.algorithm ≡ Brz → (MIN_WIDTH ≤ plan.b) × (plan.b ≤ MAX_WIDTH)
  pub buffer : (MIN_BYTES ≤ plan.buffer) × (plan.buffer ≤ MAX_BYTES)
