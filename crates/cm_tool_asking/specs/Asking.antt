-- What a query comes to, by what its file is.
use Rattle.std.specs.Prelude.{ℕ, List, ◌++◌, Option, None, Some, Result, Ok, Err, Bool, if◌then◌else◌}
use Rattle.std.specs.Option.{option_map}
use Rattle.cm_io.specs.Files.{Files, file_at}
use Rattle.cm_io.specs.Passes.{Told}
use Rattle.cm_io.specs.declared.key_pass.KeyFault.{KeyFault}
use Rattle.cm_keys.specs.Lines.{keys_in}
use Rattle.cm_tool_asking.specs.Meanings.{Meaning, Replies, notes_of, text_of}
use Rattle.cm_tool_asking.specs.declared.asking.AskFiles.{AskFiles}
use Rattle.cm_tool_stops.specs.Ending.{Outcome, refusal}
use Rattle.cm_tool_stops.specs.Messages.{fault_message}
use Rattle.cm_tool_stops.specs.Named.{Named, named}

-- A query: what messages name, which lines of the keys file are keys and which byte ends an answered line, what the file that is asked
-- is, and the message of what can be wrong with it.
pub record Asking (L F : Type 0) : Type 0 where
  pub named : Named
  pub first : Option ℕ
  pub end : ℕ
  pub meaning : Meaning L F
  pub message : F → Named → List ℕ

abbrev pub asking : {L F : Type 0} → AskFiles → Meaning L F → (F → Named → List ℕ) → Asking L F
asking files meaning message = record { named = named files.names; first = files.first; end = files.end; meaning = meaning; message = message }

-- the keys in the bytes of the keys file, and the fault at their end
abbrev pub keys_of : {L F : Type 0} → Asking L F → List ℕ → Told
keys_of a bytes = keys_in a.first a.end bytes

-- what is written of keys by what was loaded
abbrev pub replies_of : {L F : Type 0} → Asking L F → L → Replies
replies_of a x = a.meaning.replies x a.end

-- the status of a query that came to its end
abbrev pub status_by : Bool → ℕ
status_by complete = if complete then 0 else 1

-- keys that end with a fault, or with none, are answered
abbrev pub answering : {L F : Type 0} → Asking L F → Files → Replies → List (ℕ × List ℕ) → Option KeyFault → Outcome
answering a files r keys (Some fault) = record { status = 8; out = text_of r keys; err = notes_of r keys ++ fault_message a.named.program a.named.keys fault; files = files }
answering a files r keys None = record { status = status_by (r.complete keys); out = text_of r keys; err = notes_of r keys; files = files }

-- the outcome over the bytes of the keys file
unfoldable pub outcome_over : {L F : Type 0} → Asking L F → Files → L → List ℕ → Outcome
outcome_over a files x bytes = answering a files (replies_of a x) (keys_of a bytes).keys (keys_of a bytes).fault

-- the keys file is needed if the other spells something
abbrev pub outcome_by : {L F : Type 0} → Asking L F → Files → Result L F → Option Outcome
outcome_by a files (Err fault) = Some (refusal 3 (a.message fault a.named) files)
outcome_by a files (Ok x) = option_map (outcome_over a files x) (file_at files a.named.keys)

abbrev pub outcome_in : {L F : Type 0} → Asking L F → Files → Option (List ℕ) → Option Outcome
outcome_in a files None = None
outcome_in a files (Some bytes) = outcome_by a files (a.meaning.spelling bytes)

-- the outcome, if the file that is asked is there, and the keys file, where it is needed
abbrev pub outcome_of : {L F : Type 0} → Asking L F → Files → Option Outcome
outcome_of a files = outcome_in a files (file_at files a.named.function)
