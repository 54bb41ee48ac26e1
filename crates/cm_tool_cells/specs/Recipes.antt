-- What is built of the cells of keys, for the driver of builds.
use Rattle.std.specs.Prelude.{◌≡◌, ◌<◌, ℕ, List, [], ◌∷◌, length, slice_index, Option, None, Some, Result, Ok, Err}
use Rattle.cm_algo_names.specs.declared.algorithm.Algorithm.{Algorithm}
use Rattle.cm_algo_seeds.specs.declared.fault.BuildFault.{BuildFault}
use Rattle.cm_algo_seeds.specs.declared.fault.BuildFault.TheVariants as build_fault
use Rattle.cm_io.specs.Passes.{IsToldFault, Told}
use Rattle.cm_io.specs.declared.key_pass.KeyFault.{KeyFault}
use Rattle.cm_spec.specs.Built.{first_seed}
use Rattle.cm_spec.specs.Rule.{IsCount, IsRatio, Rule}
use Rattle.cm_tool_building.specs.Makes.{stop_from_key}
use Rattle.cm_tool_building.specs.Meanings.{Meaning, Refusal}
use Rattle.cm_tool_building.specs.declared.fault.Fault.{Fault}
use Rattle.cm_tool_building.specs.declared.fault.Fault.TheVariants as faults
use Rattle.cm_tool_cells.specs.Seeds.{IsChange, IsCoredUnder, TakesFirst, seeds_of}
use Rattle.cm_tool_cells.specs.declared.recipe.Recipe.{Recipe}
use Rattle.cm_tool_cells.specs.declared.report.CoreReport.{CoreReport}
use Rattle.cm_tool_stops.specs.declared.stop.Stop.{Stop}
use Rattle.cm_tool_stops.specs.declared.stop.Stop.TheVariants as stops
use Rattle.cm_witness_gather.specs.Reports.{core_report, report_text}
use Rattle.cm_witness_gather.specs.declared.failure.SeedFailure.TheVariants.{NoSeed}
use Rattle.cm_words_values.specs.Limits as values

-- the ranges of a recipe
pub record IsRecipe (recipe : Recipe) : Type 0 where
  pub ratio : IsRatio recipe.c
  pub count : values.IsCount recipe.count

-- the seeds that it tries
abbrev pub tried : Recipe → List ℕ
tried recipe = seeds_of recipe.seed recipe.count

-- the bytes of a report
abbrev pub report_bytes : CoreReport → List ℕ
report_bytes report = let made = report.certificate in report_text made.algorithm made.place made.seed made.edges.items made.equal.items

-- the report on keys for which no seed of a list works: what peeling leaves under the first
unfoldable pub report_by : Algorithm → Rule → List (ℕ × List ℕ) → ℕ → List ℕ → List ℕ
report_by algorithm r keys c seeds = core_report algorithm r keys c (slice_index seeds 0)

-- what is made under the first seed that works, or what shows that there is none
abbrev pub seeded : {M R : Type 0} → (ℕ → M) → R → Option ℕ → Result M R
seeded make shown None = Err shown
seeded make shown (Some seed) = Ok (make seed)

-- what keys that end with a fault, or with none, come to, if some with none come to this
abbrev pub verdict_on : {M : Type 0} → (List (ℕ × List ℕ) → Result M Refusal) → List (ℕ × List ℕ) → Option KeyFault → Result M Refusal
verdict_on result keys (Some fault) = Err (record { stop = stop_from_key fault; report = [] })
verdict_on result [] None = Err (record { stop = stops.NoKeys; report = [] })
verdict_on result (key ∷ keys) None = result (key ∷ keys)

-- keys for which no seed of a recipe works, with the report on them
abbrev pub refused_by : Algorithm → Rule → Recipe → List (ℕ × List ℕ) → Refusal
refused_by algorithm r recipe keys = record { stop = stops.Refused NoSeed; report = report_by algorithm r keys recipe.c (tried recipe) }

-- what is made of keys under the first seed of a recipe that works, or the refusal
abbrev pub result_over : {M : Type 0} → Algorithm → Rule → Recipe → (List (ℕ × List ℕ) → ℕ → M) → List (ℕ × List ℕ) → Result M Refusal
result_over algorithm r recipe make keys = seeded (make keys) (refused_by algorithm r recipe keys) (first_seed r keys recipe.c (tried recipe))

-- what keys that end with a fault, or with none, come to, if this is made of them under a seed
abbrev pub verdict_over : {M : Type 0} → Algorithm → Rule → Recipe → (List (ℕ × List ℕ) → ℕ → M) → List (ℕ × List ℕ) → Option KeyFault → Result M Refusal
verdict_over algorithm r recipe make keys fault = verdict_on (result_over algorithm r recipe make) keys fault

-- Known keys have no fault at their end, and this was made of them under the first seed that works.
pub record IsMadeOf {M : Type 0} (r : Rule) (recipe : Recipe) (make : List (ℕ × List ℕ) → ℕ → M) (told : Told) (made : M) : Type 0 where
  pub no_fault : told.fault ≡ None
  pub many : IsCount (length told.keys)
  pub seed : ℕ
  pub takes : TakesFirst r told.keys recipe.c (tried recipe) seed
  pub is : made ≡ make told.keys seed

-- how a build may stop, whatever the keys are: without a seed that works, or with keys that changed; it has no spill and no records
abbrev pub MayStop : Stop → Type 0
MayStop (stops.Refused failure) = failure ≡ NoSeed
MayStop (stops.Changed first again) = IsChange first again
MayStop stops.Spill = ⊥
MayStop (stops.SpillDamaged offset expected found) = ⊥
MayStop (stops.TooLarge line) = ⊥
MayStop stop = Unit {0}

-- what a builder means that makes this of keys under the first seed that works
abbrev pub meaning_by : {M : Type 0} → Algorithm → Rule → Recipe → (List (ℕ × List ℕ) → ℕ → M) → Meaning M
meaning_by algorithm r recipe make = record {
  ready = IsRecipe recipe;
  verdict = λ told. verdict_over algorithm r recipe make told.keys told.fault;
  makes = λ told made _ _. IsMadeOf r recipe make told made;
  reports = λ told. IsCoredUnder r told.keys recipe.c (tried recipe);
  may_stop = MayStop;
  uses_spill = ⊥;
  said = λ _. [];
}

-- known keys for which no seed works, with the report on them
pub record HasNoSeed (algorithm : Algorithm) (r : Rule) (recipe : Recipe) (told : Told) (report : List ℕ) : Type 0 where
  pub no_fault : told.fault ≡ None
  pub some : 0 < length told.keys
  pub none : first_seed r told.keys recipe.c (tried recipe) ≡ None
  pub report_is : report ≡ report_by algorithm r told.keys recipe.c (tried recipe)
  pub under : IsCoredUnder r told.keys recipe.c (tried recipe)

-- the refusals over known keys: they never change, and what is refused is so by the keys alone
abbrev pub FailsCells : Algorithm → Rule → Recipe → Told → Fault CoreReport → Type 0
FailsCells algorithm r recipe told faults.Memory = Unit {0}
FailsCells algorithm r recipe told faults.NoKeys = (told.fault ≡ None) × (told.keys ≡ [])
FailsCells algorithm r recipe told (faults.Refused failure report) = (failure ≡ NoSeed) × HasNoSeed algorithm r recipe told (report_bytes report)
FailsCells algorithm r recipe told (faults.Key fault) = IsToldFault told fault
FailsCells algorithm r recipe told fault = ⊥

-- whatever the keys are, `Key` has the fault that their pass failed with last
abbrev pub HasCellsFailure : Option KeyFault → Fault CoreReport → Type 0
HasCellsFailure failure (faults.Key fault) = failure ≡ Some fault
HasCellsFailure failure fault = Unit {0}

-- a fault of a build, for the driver
abbrev pub fault_from : BuildFault → Fault CoreReport
fault_from build_fault.Memory = faults.Memory
fault_from build_fault.NoKeys = faults.NoKeys
fault_from (build_fault.Cored made) = faults.Refused NoSeed (record { certificate = made })
fault_from (build_fault.Key fault) = faults.Key fault
fault_from (build_fault.Changed first again) = faults.Changed first again
