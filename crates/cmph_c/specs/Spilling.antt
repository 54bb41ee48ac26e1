-- What a build by BRZ puts into the caller's room, and why there is no function.
use Rattle.std.specs.Prelude.{◌≡◌, ◌≤◌, ◌⊎◌, ℕ, List}
use Rattle.cm_algo_names.specs.declared.algorithm.Algorithm.TheVariants as algorithm
use Rattle.cm_keys_lent.specs.Pass.{IsLentPass}
use Rattle.cm_lib_lent.specs.Builds.{FailsSpilled, IsSaved, spill_len_of}
use Rattle.cm_lib_lent.specs.declared.building.LentFault.{LentFault}
use Rattle.cm_spec.specs.Rule.{IsRatio}
use Rattle.cm_spec.specs.declared.limits.TheConstants.{MAX_WIDTH, MIN_WIDTH}
use Rattle.cm_tool_builds.specs.declared.plan.Plan as planned
use Rattle.cm_tool_cells.specs.Seeds.{seeds_of}
use Rattle.cm_words_values.specs.declared.limits.TheConstants.{MAX_SEEDS}
use Rattle.cmph_c.specs.Answering.{IsBadEnd, pass_of}
use Rattle.cmph_c.specs.Building.{build_again, build_code, build_place}
use Rattle.cmph_c.specs.Codes.{at_only}
use Rattle.cmph_c.specs.declared.building.Plan.{Plan}
use Rattle.cmph_c.specs.declared.codes.Place.{Place}
use Rattle.cmph_c.specs.declared.codes.TheConstants.{BAD_PLAN}
use Rattle.cmph_c.specs.declared.function.TheConstants.{BRZ}

-- the plan names BRZ, and each of its numbers is in its range
pub record IsGoodBrz (p : Plan) : Type 0 where
  pub algorithm : p.algorithm ≡ BRZ
  pub width : (MIN_WIDTH ≤ p.b) × (p.b ≤ MAX_WIDTH)
  pub ratio : IsRatio p.ratio
  pub tries : (1 ≤ p.tries) × (p.tries ≤ MAX_SEEDS)

-- the plan of a build by BRZ by these numbers
pub record IsBrzPlanFor (p : Plan) (q : planned.Plan) : Type 0 where
  pub algorithm : q.algorithm ≡ algorithm.Brz
  pub ratio : q.c ≡ p.ratio
  pub b : q.b ≡ p.b

-- The room begins with the file of the function of the keys, and the spill had room for them.
pub record IsBrzBuilt (p : Plan) (bytes ends : List ℕ) (spill written : ℕ) (old new : List ℕ) : Type 0 where
  pub good : IsGoodBrz p
  pub keys_are : IsLentPass (pass_of bytes ends)
  pub plan : planned.Plan
  pub planned : IsBrzPlanFor p plan
  pub spilled : spill_len_of (pass_of bytes ends) ≤ spill
  pub saved : IsSaved plan (seeds_of p.seed p.tries) (pass_of bytes ends) written old new

-- There is no function in the room, for this reason.
pub record FailsBrzBuild (p : Plan) (bytes ends : List ℕ) (spill room code : ℕ) (place : Place) : Type 0 where
  pub keys_are : IsLentPass (pass_of bytes ends)
  pub plan : planned.Plan
  pub planned : IsBrzPlanFor p plan
  pub fault : LentFault
  pub fails : FailsSpilled plan (seeds_of p.seed p.tries) (pass_of bytes ends) spill room fault
  pub code_is : code ≡ build_code fault
  pub place_is : (place.at ≡ build_place fault) × (place.again ≡ build_again fault)

-- The plan is refused; or it is good, and the ends are refused; or they are right, and the build is refused.
abbrev pub IsBrzUnbuilt : Plan → List ℕ → List ℕ → ℕ → ℕ → ℕ → Place → Type 0
IsBrzUnbuilt p bytes ends spill room code place =
    ((IsGoodBrz p → ⊥) × (code ≡ BAD_PLAN) × (place ≡ at_only 0))
    ⊎ (IsGoodBrz p × (IsBadEnd bytes ends code place ⊎ FailsBrzBuild p bytes ends spill room code place))
