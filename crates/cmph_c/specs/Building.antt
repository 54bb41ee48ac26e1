-- What a build puts into the caller's room, and why there is no function.
use Rattle.std.specs.Prelude.{◌≡◌, ◌-◌, ◌<◌, ◌≤◌, ◌⊎◌, ◌==◌, ℕ, List, [], ◌∷◌, Option, None, Some, length, if◌then◌else◌}
use Rattle.cm_algo_names.specs.declared.algorithm.Algorithm.{Algorithm}
use Rattle.cm_algo_names.specs.declared.algorithm.Algorithm.TheVariants as algorithm
use Rattle.cm_keys_lent.specs.Pass.{IsLentPass}
use Rattle.cm_lib_lent.specs.Builds.{FailsLent, IsSaved}
use Rattle.cm_lib_lent.specs.Rooms.{dump_len_by}
use Rattle.cm_lib_lent.specs.declared.building.LentFault.{LentFault}
use Rattle.cm_lib_lent.specs.declared.building.LentFault.TheVariants as lent
use Rattle.cm_spec.specs.Rule.{IsRatio}
use Rattle.cm_spec.specs.declared.limits.TheConstants.{MAX_KEYS}
use Rattle.cm_tool_builds.specs.declared.fault.FuncFault.TheVariants as faults
use Rattle.cm_tool_builds.specs.declared.plan.Plan as planned
use Rattle.cm_tool_cells.specs.Seeds.{seeds_of}
use Rattle.cm_witness_gather.specs.declared.certificate.Pair.{Pair}
use Rattle.cm_words_values.specs.declared.limits.TheConstants.{MAX_SEEDS}
use Rattle.cmph_c.specs.Answering.{IsBadEnd, pass_of}
use Rattle.cmph_c.specs.Codes.{at_only}
use Rattle.cmph_c.specs.declared.building.Plan.{Plan}
use Rattle.cmph_c.specs.declared.codes.Place.{Place}
use Rattle.cmph_c.specs.declared.codes.TheConstants.{BAD_PLAN, EQUAL_KEYS, MEMORY, NO_KEYS, NO_ROOM, NO_SEED, NO_SPILL, NO_SPLIT}
use Rattle.cmph_c.specs.declared.function.TheConstants.{BDZ, BDZ_PH, CHM}

-- the algorithm of a number
abbrev pub algorithm_by : ℕ → Option Algorithm
algorithm_by n = if n == CHM then Some algorithm.Chm else if n == BDZ then Some algorithm.Bdz else if n == BDZ_PH then Some algorithm.BdzPh else None

-- the parameter b, which BDZ alone has
abbrev pub b_by : Plan → ℕ
b_by p = if p.algorithm == BDZ then p.b else 0

-- there is such an algorithm, and by BDZ the parameter is in its range
pub record HasAlgorithm (p : Plan) : Type 0 where
  pub algorithm : Algorithm
  pub named : algorithm_by p.algorithm ≡ Some algorithm
  pub b : p.algorithm ≡ BDZ → (3 ≤ p.b) × (p.b ≤ 10)

-- each number of a plan is in its range
pub record IsGoodPlan (p : Plan) : Type 0 where
  pub algorithm : HasAlgorithm p
  pub ratio : IsRatio p.ratio
  pub tries : (1 ≤ p.tries) × (p.tries ≤ MAX_SEEDS)

-- the plan of a build by these numbers
pub record IsPlanFor (p : Plan) (q : planned.Plan) : Type 0 where
  pub algorithm : algorithm_by p.algorithm ≡ Some q.algorithm
  pub ratio : q.c ≡ p.ratio
  pub b : q.b ≡ b_by p

-- The plan is good, and there are keys, and not too many.
pub record IsBuildable (p : Plan) (keys : ℕ) : Type 0 where
  pub good : IsGoodPlan p
  pub some : 1 ≤ keys
  pub few : keys ≤ MAX_KEYS

-- the file of a function of so many keys has n bytes, if it is built by these numbers
abbrev pub IsRoomFor : Plan → ℕ → ℕ → Type 0
IsRoomFor p keys n = (plan : planned.Plan) → IsPlanFor p plan → n ≡ dump_len_by plan keys

-- The room begins with the file of the function of the keys, and has as many bytes as the file of a function of so many keys.
pub record IsBuilt (p : Plan) (bytes ends : List ℕ) (written : ℕ) (old new : List ℕ) : Type 0 where
  pub good : IsGoodPlan p
  pub keys_are : IsLentPass (pass_of bytes ends)
  pub some : 1 ≤ length ends
  pub plan : planned.Plan
  pub planned : IsPlanFor p plan
  pub enough : dump_len_by plan (length ends) ≤ length old
  pub saved : IsSaved plan (seeds_of p.seed p.tries) (pass_of bytes ends) written old new

-- the code for equal keys, if there are some, or else another one
abbrev pub equal_code : ℕ → List Pair → ℕ
equal_code code [] = code
equal_code code (pair ∷ pairs) = EQUAL_KEYS

-- the index of the first of them
abbrev pub first_of : List Pair → ℕ
first_of [] = 0
first_of (pair ∷ pairs) = pair.first - 1

-- and of the one that is equal to it
abbrev pub again_of : List Pair → ℕ
again_of [] = 0
again_of (pair ∷ pairs) = pair.again - 1

-- the code of a refusal
abbrev pub build_code : LentFault → ℕ
build_code (lent.Room needed) = NO_ROOM
build_code (lent.Build faults.NoKeys) = NO_KEYS
build_code (lent.Spill needed) = NO_SPILL
build_code (lent.Build (faults.Cored shown)) = equal_code NO_SEED shown.equal.items
build_code (lent.Build (faults.Overfull seed bucket count equal)) = equal_code NO_SPLIT equal.items
build_code fault = MEMORY

-- how many bytes are needed, or the first of two equal keys
abbrev pub build_place : LentFault → ℕ
build_place (lent.Room needed) = needed
build_place (lent.Spill needed) = needed
build_place (lent.Build (faults.Cored shown)) = first_of shown.equal.items
build_place (lent.Build (faults.Overfull seed bucket count equal)) = first_of equal.items
build_place fault = 0

-- the second of them
abbrev pub build_again : LentFault → ℕ
build_again (lent.Build (faults.Cored shown)) = again_of shown.equal.items
build_again (lent.Build (faults.Overfull seed bucket count equal)) = again_of equal.items
build_again fault = 0

-- The room has fewer bytes than the file of a function of so many keys.
pub record LacksRoom (p : Plan) (keys room code : ℕ) (place : Place) : Type 0 where
  pub some : 1 ≤ keys
  pub needed : ℕ
  pub room_for : IsRoomFor p keys needed
  pub short : room < needed
  pub code_is : code ≡ NO_ROOM
  pub place_is : place ≡ at_only needed

-- It has as many, and there is no function of these keys. So the fault is not of the room, by a law of cm_lib_lent.
pub record FailsBuild (p : Plan) (bytes ends : List ℕ) (room code : ℕ) (place : Place) : Type 0 where
  pub some : 1 ≤ length ends
  pub plan : planned.Plan
  pub planned : IsPlanFor p plan
  pub enough : dump_len_by plan (length ends) ≤ room
  pub fault : LentFault
  pub fails : FailsLent plan (seeds_of p.seed p.tries) (pass_of bytes ends) room fault
  pub code_is : code ≡ build_code fault
  pub place_is : (place.at ≡ build_place fault) × (place.again ≡ build_again fault)

-- There are no keys; or there are some, and too little room for a function of so many; or there is enough, and no function.
abbrev pub FailsKeys : Plan → List ℕ → List ℕ → ℕ → ℕ → Place → Type 0
FailsKeys p bytes ends room code place =
    ((length ends ≡ 0) × (code ≡ NO_KEYS) × (place ≡ at_only 0)) ⊎ (LacksRoom p (length ends) room code place ⊎ FailsBuild p bytes ends room code place)

-- The plan is refused; or it is good, and the ends are refused; or they are right, and the keys are refused.
abbrev pub IsUnbuilt : Plan → List ℕ → List ℕ → ℕ → ℕ → Place → Type 0
IsUnbuilt p bytes ends room code place =
    ((IsGoodPlan p → ⊥) × (code ≡ BAD_PLAN) × (place ≡ at_only 0))
    ⊎ (IsGoodPlan p × (IsBadEnd bytes ends code place ⊎ (IsLentPass (pass_of bytes ends) × FailsKeys p bytes ends room code place)))
