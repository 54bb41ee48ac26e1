-- What is written on out and said on err.
use Rattle.std.specs.Prelude.{ℕ, List, [], ◌∷◌, Option, None, Some, codes, decimal}
use Rattle.cm_io.specs.Writing.{joined}
use Rattle.cm_shards_files.specs.declared.fault.ShardsFault.{ShardsFault}
use Rattle.cm_shards_files.specs.declared.fault.ShardsFault.TheVariants as shards_fault
use Rattle.cm_shards_manifest.specs.declared.fault.ManifestFault.{ManifestFault}
use Rattle.cm_shards_manifest.specs.declared.fault.ManifestFault.TheVariants as manifest_fault
use Rattle.cm_shards_query.specs.declared.verdict.Verdict.{Verdict}
use Rattle.cm_shards_query.specs.declared.verdict.Verdict.TheVariants.{Count, Holds, Repeated, Unknown}
use Rattle.cm_shards_words.specs.Messages.{file_message}
use Rattle.cm_shards_words.specs.Program.{program}
use Rattle.cm_tool_stops.specs.Messages.{bad_dump, cannot_read, out_of_memory, place_text}

-- the note of a line without a number
abbrev pub unknown_note : ℕ → List ℕ
unknown_note line = joined (program ∷ codes ": line " ∷ decimal line ∷ codes ": key is unknown\n" ∷ [])

-- what is noted of a line, if it has no number
abbrev pub note_without : ℕ → Option ℕ → List ℕ
note_without line None = unknown_note line
note_without line (Some v) = []

-- the text of a verdict: one line, which ends with a line feed
abbrev pub verdict_text : Verdict → List ℕ
verdict_text Holds = codes "true\n"
verdict_text (Unknown line) = joined (codes "false: line " ∷ decimal line ∷ codes ": key is unknown\n" ∷ [])
verdict_text (Repeated line value) = joined (codes "false: line " ∷ decimal line ∷ codes ": value " ∷ decimal value ∷ codes " is repeated\n" ∷ [])
verdict_text (Count lines keys) = joined (codes "false: " ∷ decimal lines ∷ codes " keys, not " ∷ decimal keys ∷ codes "\n" ∷ [])

-- what is wrong with bytes that are no manifest
abbrev pub manifest_words : ManifestFault → List ℕ
manifest_words (manifest_fault.Truncated at) = codes "truncated at "
manifest_words manifest_fault.BadMagic = codes "bad magic"
manifest_words (manifest_fault.BadField at) = codes "bad field at "
manifest_words (manifest_fault.BadDigest at) = codes "bad digest at "
manifest_words manifest_fault.Trailing = codes "trailing bytes"

-- at which byte it is wrong, if one is named
abbrev pub manifest_place : ManifestFault → Option ℕ
manifest_place (manifest_fault.Truncated at) = Some at
manifest_place manifest_fault.BadMagic = None
manifest_place (manifest_fault.BadField at) = Some at
manifest_place (manifest_fault.BadDigest at) = Some at
manifest_place manifest_fault.Trailing = None

abbrev pub bad_manifest : List ℕ → ManifestFault → List ℕ
bad_manifest file fault = joined (program ∷ codes ": " ∷ file ∷ codes ": bad manifest: " ∷ manifest_words fault ∷ place_text (manifest_place fault) ∷ codes "\n" ∷ [])

-- why the functions of the manifest of a path were not loaded
abbrev pub load_message : List ℕ → ShardsFault → List ℕ
load_message manifest shards_fault.Memory = out_of_memory program
load_message manifest shards_fault.NoManifest = cannot_read program manifest
load_message manifest (shards_fault.BadManifest fault) = bad_manifest manifest fault
load_message manifest (shards_fault.NoFunction path) = cannot_read program path
load_message manifest (shards_fault.BadFunction path fault) = bad_dump program path fault
load_message manifest (shards_fault.Another path) = file_message path (codes ": not the function of the manifest\n")

-- the status of that
abbrev pub load_status : ShardsFault → ℕ
load_status shards_fault.Memory = 6
load_status shards_fault.NoManifest = 4
load_status (shards_fault.BadManifest fault) = 3
load_status (shards_fault.NoFunction path) = 4
load_status (shards_fault.BadFunction path fault) = 3
load_status (shards_fault.Another path) = 3
