-- What a build comes to, by what its builder makes of the keys.
use Rattle.std.specs.Prelude.{ℕ, List, [], Option, Result, Ok, Err}
use Rattle.std.specs.Option.{option_map}
use Rattle.std.specs.FinMap as map
use Rattle.cm_io.specs.Files.{Files, file_at}
use Rattle.cm_io.specs.Passes.{Told}
use Rattle.cm_keys.specs.Lines.{keys_in}
use Rattle.cm_tool_building.specs.Meanings.{Meaning, Refusal}
use Rattle.cm_tool_building.specs.declared.building.BuildFiles.{BuildFiles}
use Rattle.cm_tool_stops.specs.Ends.{message_of, status_of}
use Rattle.cm_tool_stops.specs.Ending.{Outcome}
use Rattle.cm_tool_stops.specs.Named.{Named, named}

-- A build: what messages name, the directory of the spill, which lines of the keys file are keys, what is made of them, and the bytes
-- of that.
pub record Building (M : Type 0) : Type 1 where
  pub named : Named
  pub dir : List ℕ
  pub first : Option ℕ
  pub end : ℕ
  pub meaning : Meaning M
  pub bytes : M → List ℕ

abbrev pub building : {M : Type 0} → BuildFiles → Meaning M → (M → List ℕ) → Building M
building files meaning bytes = record { named = named files.names; dir = files.dir.now; first = files.first; end = files.end; meaning = meaning; bytes = bytes }

-- the keys in the bytes of the keys file, and the fault at their end
abbrev pub keys_of : {M : Type 0} → Building M → List ℕ → Told
keys_of b bytes = keys_in b.first b.end bytes

-- what was made is saved
abbrev pub saving : {M : Type 0} → Building M → Files → M → Outcome
saving b files made = record { status = 0; out = []; err = b.meaning.said made; files = map.insert files b.named.function (b.bytes made) }

-- nothing is made, and out gets the report
abbrev pub refusing : {M : Type 0} → Building M → Files → Refusal → Outcome
refusing b files refusal = record { status = status_of refusal.stop; out = refusal.report; err = message_of b.named b.dir refusal.stop; files = files }

abbrev pub outcome_by : {M : Type 0} → Building M → Files → Result M Refusal → Outcome
outcome_by b files (Ok made) = saving b files made
outcome_by b files (Err refusal) = refusing b files refusal

-- the outcome over the bytes of the keys file
unfoldable pub outcome_over : {M : Type 0} → Building M → Files → List ℕ → Outcome
outcome_over b files bytes = outcome_by b files (b.meaning.verdict (keys_of b bytes))

-- the outcome, if the keys file is there
abbrev pub outcome_of : {M : Type 0} → Building M → Files → Option Outcome
outcome_of b files = option_map (outcome_over b files) (file_at files b.named.keys)
