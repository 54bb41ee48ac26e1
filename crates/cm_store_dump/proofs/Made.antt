-- From the store of records to what a build makes of lines.
use Rattle.std.proofs.Common.{◌≡◌, ◌∙◌, ℕ, List, length, Option, None, Result, Ok, Err, ap, refl}
use Rattle.std.specs.Prelude.{slice_index}
use Rattle.cm_algo_names.specs.declared.algorithm.Algorithm.TheVariants.{Bdz}
use Rattle.cm_io.specs.Passes.{Told}
use Rattle.cm_io.specs.declared.key_pass.KeyFault.{KeyFault}
use Rattle.cm_io.specs.declared.key_pass.KeyFault.TheVariants as key_fault
use Rattle.cm_bdz.specs.Functions.{IsBdz}
use Rattle.cm_peel.specs.CoreLaws.{rest_is_core}
use Rattle.cm_spec.specs.Bdz.{bdz_rule}
use Rattle.cm_spec.specs.Built.{cells_under}
use Rattle.cm_store.specs.Builds.{FailsLines, HasStoreCause, HasStoreFailure, HasStoreForm, IsStoreOfLines}
use Rattle.cm_store.specs.Stores.{IsStore, Store}
use Rattle.cm_store.specs.declared.building.StoreBuildFault.{StoreBuildFault}
use Rattle.cm_store.specs.declared.building.StoreBuildFault.TheVariants as build_fault
use Rattle.cm_store.specs.declared.building.StorePlan.{StorePlan}
use Rattle.cm_store_dump.specs.Building.{IsStoreOf, MayStop, fault_from, file_under, keys_told, meaning_of, recipe_of, unless_large, verdict_of}
use Rattle.cm_store_dump.specs.Making.{HasLineFailure}
use Rattle.cm_store_dump.specs.declared.files.StoreFile.{StoreFile}
use Rattle.cm_store_records.specs.Records.{first_large, keys_of_lines}
use Rattle.cm_store_words.specs.declared.jobs.StoreBuild.{StoreBuild}
use Rattle.cm_tool_building.specs.Makes.{HasMakeCause, IsAllowedFault, RefusesBy}
use Rattle.cm_tool_building.specs.Meanings.{Refusal}
use Rattle.cm_tool_cells.specs.RecipeLaws.{core_shown, made_of, made_verdict, over_fault, over_none, refuses}
use Rattle.cm_tool_cells.specs.Recipes.{FailsCells, report_bytes, result_over, tried, verdict_over}
use Rattle.cm_tool_cells.specs.Seeds.{IsBuiltFrom}
use Rattle.cm_tool_cells.specs.declared.report.CoreReport.{CoreReport}

-- how the store of a job is built
abbrev pub plan_of : StoreBuild → StorePlan
plan_of job = record { c = job.c; b = job.b }

-- What is known of the store of lines, and what they come to.
pub record IsMade (job : StoreBuild) (told : Told) (file : StoreFile) : Type 0 where
  pub verdict : verdict_of job told ≡ Ok file
  pub is : IsStoreOf job told file

pub is_made : (job : StoreBuild) (told : Told) (s : Store) → IsStoreOfLines (plan_of job) (tried (recipe_of job)) told s → IsStore s → IsBdz s.index → IsMade job told (record { store = s })
is_made job told s of store index =
    let recipe = recipe_of job in
    let make = λ (keys : List (ℕ × List ℕ)). file_under job told.keys in
    let keys = keys_of_lines told.keys in
    let file : StoreFile = record { store = s } in
    let made = of.made in
    let cells = cells_under bdz_rule keys job.c made.seed in
    let built : IsBuiltFrom bdz_rule (keys_told told) job.c (tried recipe) (length keys) made.seed cells =
    record { no_fault = of.no_fault; many = refl; place = made.place; chosen = made.chosen; first = made.first; cells_are = refl } in
    let same : file ≡ file_under job told.keys made.seed = ap (λ (t : Store). let f : StoreFile = record { store = t } in f) made.is in
    let verdict = made_verdict Bdz bdz_rule recipe make (keys_told told) file (length keys) made.seed cells made.many built same in
    record {
      verdict = ap (λ (o : Option ℕ). unless_large o (verdict_over Bdz bdz_rule recipe make keys told.fault)) of.fit ∙ verdict;
      is = record {
        fit = of.fit;
        made = made_of bdz_rule recipe make (keys_told told) file (length keys) made.seed cells made.many built same;
        records = of.records;
        is = store;
        index = index;
      };
    }

-- what keys come to, as what their lines do, since all records fit
lift : (job : StoreBuild) (told : Told) (v : Result StoreFile Refusal) → first_large 0 told.keys ≡ None → verdict_over Bdz bdz_rule (recipe_of job) (λ keys. file_under job told.keys) (keys_of_lines told.keys) told.fault ≡ v → verdict_of job told ≡ v
lift job told v fit is = ap (λ (o : Option ℕ). unless_large o (verdict_over Bdz bdz_rule (recipe_of job) (λ keys. file_under job told.keys) (keys_of_lines told.keys) told.fault)) fit ∙ is

-- what keys with no fault at their end come to, and what with this one
result_of : StoreBuild → Told → List (ℕ × List ℕ) → Result StoreFile Refusal
result_of job told = result_over Bdz bdz_rule (recipe_of job) (λ keys. file_under job told.keys)

-- what is refused of lines
pub is_refused : (job : StoreBuild) (told : Told) (fault : StoreBuildFault) → FailsLines told job.c (tried (recipe_of job)) fault → HasStoreForm (slice_index (tried (recipe_of job)) 0) fault → RefusesBy report_bytes (meaning_of job) told (fault_from fault)
unfolding result_of
is_refused job told build_fault.Memory fails form = tt
is_refused job told build_fault.NoKeys fails form = lift job told _ fails.0 (over_none (result_of job told) (keys_of_lines told.keys) told.fault fails.1 (ap keys_of_lines fails.2))
is_refused job told (build_fault.Cored made) fails form =
    let recipe = recipe_of job in
    let no = fails.2 in
    let report : CoreReport = record { certificate = made } in
    let cells : FailsCells Bdz bdz_rule recipe (keys_told told) (fault_from (build_fault.Cored made)) = (
      refl,
      record {
        no_fault = fails.1;
        some = no.some;
        none = no.none;
        report_is = core_shown Bdz bdz_rule (keys_of_lines told.keys) job.c (tried recipe) made form no.shows;
        under = record { cored = no.cored; core = rest_is_core _ };
      },
    ) in
    let refused = refuses Bdz bdz_rule recipe (λ keys. file_under job told.keys) (keys_told told) (fault_from (build_fault.Cored made)) cells in
    (lift job told _ fails.0 refused.0, (fails.0, refused.1))
is_refused job told (build_fault.Key key_fault.Read) fails form = tt
is_refused job told (build_fault.Key (key_fault.TooLong line)) fails form = lift job told _ fails.0 (over_fault (result_of job told) (keys_of_lines told.keys) told.fault (key_fault.TooLong line) fails.1)
is_refused job told (build_fault.Key key_fault.TooMany) fails form = lift job told _ fails.0 (over_fault (result_of job told) (keys_of_lines told.keys) told.fault key_fault.TooMany fails.1)
is_refused job told (build_fault.TooLarge line) fails form = ap (λ (o : Option ℕ). unless_large o (verdict_over Bdz bdz_rule (recipe_of job) (λ keys. file_under job told.keys) (keys_of_lines told.keys) told.fault)) fails

-- a build fails as its pass did
pub caused : (fault : StoreBuildFault) (k k_now w : ℕ) → HasStoreCause {T = Store} k k_now (Err fault) → HasMakeCause {T = StoreFile} k k_now w w (Err (fault_from fault))
caused build_fault.Memory k k_now w cause = (cause, refl)
caused build_fault.NoKeys k k_now w cause = (cause, refl)
caused (build_fault.Cored made) k k_now w cause = (cause, refl)
caused (build_fault.Key fault) k k_now w cause = (cause, refl)
caused (build_fault.TooLarge line) k k_now w cause = (cause, refl)

pub failed_as : (failure : Option KeyFault) (last : ℕ) (fault : StoreBuildFault) → HasStoreFailure failure last fault → HasLineFailure failure last (fault_from fault)
failed_as failure last build_fault.Memory is = tt
failed_as failure last build_fault.NoKeys is = tt
failed_as failure last (build_fault.Cored made) is = tt
failed_as failure last (build_fault.Key fault) is = is
failed_as failure last (build_fault.TooLarge line) is = is

-- whatever the lines are, the driver may stop so
pub allowed : (fault : StoreBuildFault) → IsAllowedFault MayStop (fault_from fault)
allowed build_fault.Memory = tt
allowed build_fault.NoKeys = tt
allowed (build_fault.Cored made) = refl
allowed (build_fault.Key key_fault.Read) = tt
allowed (build_fault.Key (key_fault.TooLong line)) = tt
allowed (build_fault.Key key_fault.TooMany) = tt
allowed (build_fault.TooLarge line) = tt
