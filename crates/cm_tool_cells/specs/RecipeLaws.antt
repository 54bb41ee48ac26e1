-- Lemmas about what is built of the cells of keys, for builders.
use Rattle.std.proofs.Common.{◌≡◌, ◌∙◌, ℕ, ◌<◌, List, [], ◌∷◌, length, Option, None, Some, Result, Ok, Err, refl, ap, arith}
use Rattle.std.specs.Prelude.{slice_index}
use Rattle.cm_algo_names.specs.declared.algorithm.Algorithm.{Algorithm}
use Rattle.cm_algo_seeds.specs.Fails.{HasForm, ShowsCore}
use Rattle.cm_algo_seeds.specs.declared.fault.BuildFault.TheVariants as build_fault
use Rattle.cm_io.specs.Passes.{Told}
use Rattle.cm_io.specs.declared.key_pass.KeyFault.{KeyFault}
use Rattle.cm_io.specs.declared.key_pass.KeyFault.TheVariants as key_fault
use Rattle.cm_spec.specs.Rule.{IsCount, Rule}
use Rattle.cm_tool_building.specs.Makes.{RefusesBy, stop_from_key}
use Rattle.cm_tool_building.specs.Meanings.{Refusal}
use Rattle.cm_tool_building.specs.declared.fault.Fault.{Fault}
use Rattle.cm_tool_building.specs.declared.fault.Fault.TheVariants.{Memory, NoKeys, Refused, Key, TooLarge, Changed, Spill, SpillDamaged}
use Rattle.cm_tool_cells.specs.Recipes as recipes
use Rattle.cm_tool_cells.specs.Recipes.{FailsCells, IsMadeOf, meaning_by, refused_by, report_by, report_bytes, result_over, seeded, tried, verdict_on, verdict_over}
use Rattle.cm_tool_cells.specs.Seeds.{IsBuiltFrom}
use Rattle.cm_tool_cells.specs.declared.recipe.Recipe.{Recipe}
use Rattle.cm_tool_cells.specs.declared.report.CoreReport.{CoreReport}
use Rattle.cm_tool_stops.specs.declared.stop.Stop.TheVariants as stops
use Rattle.cm_witness_gather.specs.declared.certificate.Certificate.{Certificate}

-- the certificate of a failed build shows what peeling leaves under the first seed
pub core_shown : (a : Algorithm) (r : Rule) (keys : List (ℕ × List ℕ)) (c : ℕ) (seeds : List ℕ) (made : Certificate) → HasForm a (slice_index seeds 0) (build_fault.Cored made) → ShowsCore r keys c (slice_index seeds 0) made
    → report_bytes (record { certificate = made }) ≡ report_by a r keys c seeds
unfolding recipes.report_by
core_shown a r keys c seeds made form shows = rw (form.0, form.1, form.2, shows.edges, shows.equal) refl

-- what keys that end with no fault, or with one, come to
pub over_some : {M : Type 0} (result : List (ℕ × List ℕ) → Result M Refusal) (keys : List (ℕ × List ℕ)) (fault : Option KeyFault) → fault ≡ None → 0 < length keys → verdict_on result keys fault ≡ result keys
over_some result [] fault fine some = absurd (omega arith)
over_some result (key ∷ keys) fault fine some = rw fine refl

pub over_none : {M : Type 0} (result : List (ℕ × List ℕ) → Result M Refusal) (keys : List (ℕ × List ℕ)) (fault : Option KeyFault) → fault ≡ None → keys ≡ [] → verdict_on result keys fault ≡ Err (record { stop = stops.NoKeys; report = [] })
over_none result keys fault fine none = rw (fine, none) refl

pub over_fault : {M : Type 0} (result : List (ℕ × List ℕ) → Result M Refusal) (keys : List (ℕ × List ℕ)) (fault : Option KeyFault) (f : KeyFault) → fault ≡ Some f → verdict_on result keys fault ≡ Err (record { stop = stop_from_key f; report = [] })
over_fault result [] fault f is = rw is refl
over_fault result (key ∷ keys) fault f is = rw is refl

-- what is made of known keys under the seed of a build
pub made_of : {M : Type 0} (r : Rule) (recipe : Recipe) (make : List (ℕ × List ℕ) → ℕ → M) (told : Told) (made : M) (m seed : ℕ) (cells : List ℕ) → IsCount m → IsBuiltFrom r told recipe.c (tried recipe) m seed cells → made ≡ make told.keys seed → IsMadeOf r recipe make told made
made_of r recipe make told made m seed cells many built is = record {
  no_fault = built.no_fault;
  many = (omega (arith, many.0, built.many), omega (arith, many.1, built.many));
  seed = seed;
  takes = (built.place, built.first);
  is = is;
}

-- is what the builder means
pub made_verdict : {M : Type 0} (a : Algorithm) (r : Rule) (recipe : Recipe) (make : List (ℕ × List ℕ) → ℕ → M) (told : Told) (made : M) (m seed : ℕ) (cells : List ℕ) → IsCount m → IsBuiltFrom r told recipe.c (tried recipe) m seed cells → made ≡ make told.keys seed
    → verdict_over a r recipe make told.keys told.fault ≡ Ok made
made_verdict a r recipe make told made m seed cells many built is =
    over_some (result_over a r recipe make) told.keys told.fault built.no_fault (omega (arith, many.0, built.many))
    ∙ ap (seeded (make told.keys) (refused_by a r recipe told.keys)) built.chosen
    ∙ rw is refl

-- and so is what is refused
pub refuses : {M : Type 0} (a : Algorithm) (r : Rule) (recipe : Recipe) (make : List (ℕ × List ℕ) → ℕ → M) (told : Told) (fault : Fault CoreReport) → FailsCells a r recipe told fault → RefusesBy report_bytes (meaning_by a r recipe make) told fault
refuses a r recipe make told Memory fails = tt
refuses a r recipe make told NoKeys fails = over_none (result_over a r recipe make) told.keys told.fault fails.0 fails.1
refuses a r recipe make told (Refused failure report) fails =
    let it = fails.1 in (
      over_some (result_over a r recipe make) told.keys told.fault it.no_fault it.some ∙ ap (seeded (make told.keys) (refused_by a r recipe told.keys)) it.none ∙ rw (fails.0, it.report_is) refl,
      it.under,
    )
refuses a r recipe make told (Key key_fault.Read) fails = tt
refuses a r recipe make told (Key (key_fault.TooLong line)) fails = over_fault (result_over a r recipe make) told.keys told.fault (key_fault.TooLong line) fails
refuses a r recipe make told (Key key_fault.TooMany) fails = over_fault (result_over a r recipe make) told.keys told.fault key_fault.TooMany fails
refuses a r recipe make told (TooLarge line) fails = absurd fails
refuses a r recipe make told (Changed first again) fails = absurd fails
refuses a r recipe make told Spill fails = absurd fails
refuses a r recipe make told (SpillDamaged offset expected found) fails = absurd fails
