-- What a build makes of lines, for the driver of builds.
use Rattle.std.specs.Prelude.{◌≡◌, ℕ, List, [], Option, None, Some, Result, Err}
use Rattle.cm_algo_names.specs.declared.algorithm.Algorithm.TheVariants.{Bdz}
use Rattle.cm_bdz.specs.Functions.{IsBdz}
use Rattle.cm_io.specs.Passes.{Told}
use Rattle.cm_spec.specs.Bdz.{bdz_rule}
use Rattle.cm_store.specs.Stores.{IsStore, records_of, store_under}
use Rattle.cm_store.specs.declared.building.StoreBuildFault.{StoreBuildFault}
use Rattle.cm_store.specs.declared.building.StoreBuildFault.TheVariants as build_fault
use Rattle.cm_store_dump.specs.Program.{naming}
use Rattle.cm_store_dump.specs.declared.files.StoreFile.{StoreFile}
use Rattle.cm_store_file.specs.StoreFiles.{store_bytes}
use Rattle.cm_store_records.specs.Records.{first_large, keys_of_lines, records_of_lines}
use Rattle.cm_store_words.specs.Limits.{IsStoreBuild}
use Rattle.cm_store_words.specs.declared.jobs.StoreBuild.{StoreBuild}
use Rattle.cm_tool_building.specs.Building.{Building}
use Rattle.cm_tool_building.specs.Meanings.{Meaning, Refusal}
use Rattle.cm_tool_building.specs.declared.fault.Fault.{Fault}
use Rattle.cm_tool_building.specs.declared.fault.Fault.TheVariants as faults
use Rattle.cm_tool_cells.specs.Recipes.{IsMadeOf, tried, verdict_over}
use Rattle.cm_tool_cells.specs.Seeds.{IsCoredUnder}
use Rattle.cm_tool_cells.specs.declared.recipe.Recipe.{Recipe}
use Rattle.cm_tool_cells.specs.declared.report.CoreReport.{CoreReport}
use Rattle.cm_tool_stops.specs.declared.stop.Stop.{Stop}
use Rattle.cm_tool_stops.specs.declared.stop.Stop.TheVariants as stops
use Rattle.cm_witness_gather.specs.declared.failure.SeedFailure.TheVariants.{NoSeed}

-- how the index of a job is built
abbrev pub recipe_of : StoreBuild → Recipe
recipe_of job = record { c = job.c; seed = job.seed; count = job.count }

-- the keys of lines, and the fault at their end
abbrev pub keys_told : Told → Told
keys_told lines = record { keys = keys_of_lines lines.keys; fault = lines.fault }

-- the store of lines, with the index of their keys under a seed
abbrev pub file_under : StoreBuild → List (ℕ × List ℕ) → ℕ → StoreFile
file_under job lines seed = record { store = store_under lines job.c seed job.b }

-- what lines come to, of which one may be too large
abbrev pub unless_large : {M : Type 0} → Option ℕ → Result M Refusal → Result M Refusal
unless_large None verdict = verdict
unless_large (Some line) verdict = Err (record { stop = stops.TooLarge line; report = [] })

-- What lines come to: a record that is too large comes before what their keys come to, as for a function by BDZ.
abbrev pub verdict_of : StoreBuild → Told → Result StoreFile Refusal
verdict_of job lines = unless_large (first_large 0 lines.keys) (verdict_over Bdz bdz_rule (recipe_of job) (λ keys. file_under job lines.keys) (keys_of_lines lines.keys) lines.fault)

-- What is known of the store of lines: all records fit, it is that of the first seed that works, its records are those of the lines, and its
-- parts are in their ranges.
pub record IsStoreOf (job : StoreBuild) (lines : Told) (file : StoreFile) : Type 0 where
  pub fit : first_large 0 lines.keys ≡ None
  pub made : IsMadeOf bdz_rule (recipe_of job) (λ keys. file_under job lines.keys) (keys_told lines) file
  pub records : records_of file.store ≡ records_of_lines lines.keys
  pub is : IsStore file.store
  pub index : IsBdz file.store.index

-- How a build may stop, whatever the lines are: without a seed that works, or because a record is too large. The keys are read once, so
-- they never change, and there is no spill.
abbrev pub MayStop : Stop → Type 0
MayStop (stops.Refused failure) = failure ≡ NoSeed
MayStop (stops.Changed first again) = ⊥
MayStop stops.Spill = ⊥
MayStop (stops.SpillDamaged offset expected found) = ⊥
MayStop stop = Unit {0}

-- why there is no store of lines, for the driver
abbrev pub fault_from : StoreBuildFault → Fault CoreReport
fault_from build_fault.Memory = faults.Memory
fault_from build_fault.NoKeys = faults.NoKeys
fault_from (build_fault.Cored made) = faults.Refused NoSeed (record { certificate = made })
fault_from (build_fault.Key fault) = faults.Key fault
fault_from (build_fault.TooLarge line) = faults.TooLarge line

abbrev pub meaning_of : StoreBuild → Meaning StoreFile
meaning_of job = record {
  ready = IsStoreBuild job;
  verdict = verdict_of job;
  makes = λ lines file _ _. IsStoreOf job lines file;
  reports = λ lines. (first_large 0 lines.keys ≡ None) × IsCoredUnder bdz_rule (keys_of_lines lines.keys) job.c (tried (recipe_of job));
  may_stop = MayStop;
  uses_spill = ⊥;
  said = λ _. [];
}

-- the build of a job
abbrev pub building_of : StoreBuild → Building StoreFile
building_of job = record {
  named = naming job.lines job.store;
  dir = [];
  first = job.first;
  end = job.end;
  meaning = meaning_of job;
  bytes = λ file. store_bytes file.store;
}
