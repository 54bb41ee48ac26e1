-- What opening a dump by BRZ gives.
use Rattle.std.specs.Prelude.{◌≡◌, ◌<◌, ◌≤◌, ℕ, List, Err}
use Rattle.cm_brz_func.specs.Functions.{bucket_count}
use Rattle.cm_dump.specs.Forms.{form_of}
use Rattle.cm_dump.specs.Spelling.{brz_at}
use Rattle.cm_dump.specs.declared.front.Header.{Header}
use Rattle.cm_dump.specs.declared.versions.Version.{Version}
use Rattle.cm_dump_brz.specs.Indexed.{IndexedBrz}
use Rattle.cm_dump_brz.specs.declared.fault.OpenFault.{OpenFault}
use Rattle.cm_dump_brz.specs.declared.fault.OpenFault.TheVariants as fault
use Rattle.cm_dump_items.specs.Reading.{IsByteFault}

-- a dump of a header with an index
abbrev pub indexed : Version → Header → List ℕ → List ℕ → IndexedBrz
indexed v h dump index = record { version = v; keys = h.keys; ratio = h.ratio; width = h.b; split = h.seed; dump = dump; index = index }

-- Why there is no function: the first fault of the bytes, if there is room for the index, or how many numbers it needs.
abbrev pub IsBrzFault : Version → Header → List ℕ → ℕ → OpenFault → Type 0
IsBrzFault v h dump room (fault.Dump e) = (bucket_count h.keys h.b ≤ room) × (brz_at (form_of v) dump h ≡ Err e) × IsByteFault e
IsBrzFault v h dump room (fault.Room needed) = (needed ≡ bucket_count h.keys h.b) × (room < needed)
