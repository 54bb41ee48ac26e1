-- Lemmas about the outcome of a build, for those who know the verdict on its keys.
use Rattle.std.proofs.Common.{◌≡◌, ◌∙◌, ℕ, List, Some, Err, ap}
use Rattle.std.specs.Option.{option_map}
use Rattle.cm_io.specs.Files.{Files, file_at}
use Rattle.cm_tool_building.specs.Building as outcomes
use Rattle.cm_tool_building.specs.Building.{Building, keys_of, outcome_by, outcome_of, refusing}
use Rattle.cm_tool_building.specs.Meanings.{Refusal}
use Rattle.cm_tool_stops.specs.Ending.{Outcome}

-- the outcome of a build whose keys file is there
pub outcome_there : {M : Type 0} (b : Building M) (files : Files) (bytes : List ℕ) (o : Outcome) → file_at files b.named.keys ≡ Some bytes → outcome_by b files (b.meaning.verdict (keys_of b bytes)) ≡ o → outcome_of b files ≡ Some o
unfolding outcomes.outcome_over
outcome_there b files bytes o file is = ap (option_map (outcomes.outcome_over b files)) file ∙ ap Some is

-- and that of one that made nothing
pub refused_outcome : {M : Type 0} (b : Building M) (files : Files) (bytes : List ℕ) (refusal : Refusal) → file_at files b.named.keys ≡ Some bytes → b.meaning.verdict (keys_of b bytes) ≡ Err refusal → outcome_of b files ≡ Some (refusing b files refusal)
refused_outcome b files bytes refusal file is = outcome_there b files bytes _ file (ap (outcome_by b files) is)
