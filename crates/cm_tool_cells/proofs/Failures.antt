-- From a failed build over a pass to what the driver gets.
use Rattle.std.proofs.Common.{Option, refl}
use Rattle.std.specs.Prelude.{slice_index}
use Rattle.cm_algo_names.specs.declared.algorithm.Algorithm.{Algorithm}
use Rattle.cm_algo_seeds.specs.Fails.{FailsBuild, HasBuildFailure, HasForm}
use Rattle.cm_algo_seeds.specs.declared.fault.BuildFault.{BuildFault}
use Rattle.cm_algo_seeds.specs.declared.fault.BuildFault.TheVariants as build_fault
use Rattle.cm_io.specs.Passes.{Told}
use Rattle.cm_io.specs.declared.key_pass.KeyFault.{KeyFault}
use Rattle.cm_peel.specs.CoreLaws.{rest_is_core}
use Rattle.cm_spec.specs.Rule.{Rule}
use Rattle.cm_tool_cells.specs.RecipeLaws.{core_shown}
use Rattle.cm_tool_cells.specs.Recipes.{FailsCells, HasCellsFailure, fault_from, tried}
use Rattle.cm_tool_cells.specs.declared.recipe.Recipe.{Recipe}

-- a failed build is a refusal of the keys, by these alone
pub fails_cells : (a : Algorithm) (r : Rule) (recipe : Recipe) (told : Told) (fault : BuildFault) → FailsBuild r told recipe.c (tried recipe) fault → HasForm a (slice_index (tried recipe) 0) fault → FailsCells a r recipe told (fault_from fault)
fails_cells a r recipe told build_fault.Memory fails form = tt
fails_cells a r recipe told build_fault.NoKeys fails form = (fails.1, fails.0)
fails_cells a r recipe told (build_fault.Cored made) fails form = (
  refl,
  record {
    no_fault = fails.1;
    some = fails.0;
    none = fails.2;
    report_is = core_shown a r told.keys recipe.c (tried recipe) made form fails.4;
    under = record { cored = fails.3; core = rest_is_core _ };
  },
)
fails_cells a r recipe told (build_fault.Key fault) fails form = fails
fails_cells a r recipe told (build_fault.Changed first again) fails form = absurd fails

-- and `Key` has the fault of the pass
pub failed_as : (failure : Option KeyFault) (fault : BuildFault) → HasBuildFailure failure fault → HasCellsFailure failure (fault_from fault)
failed_as failure build_fault.Memory is = tt
failed_as failure build_fault.NoKeys is = tt
failed_as failure (build_fault.Cored made) is = tt
failed_as failure (build_fault.Key fault) is = is
failed_as failure (build_fault.Changed first again) is = tt
