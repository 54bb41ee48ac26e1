-- What a function file is that is asked for keys.
use Rattle.std.specs.Prelude.{◌≡◌, ◌+◌, ◌==◌, ℕ, List, Option, Some, Result, Ok, Err}
use Rattle.cm_dump.specs.Forms.{version_of}
use Rattle.cm_dump.specs.Spelling.{spelling_of}
use Rattle.cm_dump.specs.declared.reader.Loaded.{Loaded}
use Rattle.cm_dump.specs.declared.versions.Version.{Version}
use Rattle.cm_dump_items.specs.declared.fault.LoadFault.{LoadFault}
use Rattle.cm_dump_items.specs.declared.fault.LoadFault.TheVariants as faults
use Rattle.cm_func.specs.Functions.{answer_by}
use Rattle.cm_func.specs.declared.function.Func.{Func}
use Rattle.cm_io.specs.Files.{Files, file_at}
use Rattle.cm_query.specs.Repeats.{is_repeated}
use Rattle.cm_query.specs.Tallies.{tally_of}
use Rattle.cm_query.specs.Texts.{line_of, note_of}
use Rattle.cm_tool_asking.specs.Meanings.{Meaning, Replies}
use Rattle.cm_tool_asking.specs.declared.unloaded.Unloaded.{Unloaded}
use Rattle.cm_tool_asking.specs.declared.unloaded.Unloaded.TheVariants.{Memory, Read, Bad}
use Rattle.cm_tool_files.specs.declared.asked.AskedFunc.{AskedFunc}

-- the bytes of the function file spell the function
abbrev pub Spells : Files → List ℕ → Func → Type 0
Spells files path f = (dump : List ℕ) × (file_at files path ≡ Some dump) × (spelling_of dump ≡ Ok f)

-- they spell the function that was loaded, in its version
abbrev pub SpellsAs : Files → List ℕ → Loaded → Type 0
SpellsAs files path loaded = (dump : List ℕ) × (file_at files path ≡ Some dump) × (spelling_of dump ≡ Ok loaded.func) × (loaded.version ≡ version_of dump)

-- they spell none, and this is their first fault
abbrev pub IsBadDump : Files → List ℕ → LoadFault → Type 0
IsBadDump files path fault = (dump : List ℕ) × (file_at files path ≡ Some dump) × (spelling_of dump ≡ Err fault)

-- why no function was loaded
abbrev pub unloaded_from : LoadFault → Unloaded LoadFault
unloaded_from faults.Memory = Memory
unloaded_from faults.Read = Read
unloaded_from fault = Bad fault

-- the function of a dump of a version
abbrev pub func_by : Version → Result Func LoadFault → Result AskedFunc LoadFault
func_by version (Ok f) = Ok (record { loaded = record { func = f; version = version } })
func_by version (Err fault) = Err fault

abbrev pub func_in : List ℕ → Result AskedFunc LoadFault
func_in bytes = func_by (version_of bytes) (spelling_of bytes)

-- what a function from the bytes of a key to its answer writes of keys
abbrev pub replies_by : (List ℕ → Option ℕ) → ℕ → Replies
replies_by f end = record {
  line = λ key. line_of end key (f key);
  note = λ earlier k. note_of k.0 (f k.1) (is_repeated f earlier (f k.1));
  complete = λ keys. (tally_of f keys).repeated + (tally_of f keys).unknown == 0;
}

abbrev pub func_meaning : Meaning AskedFunc LoadFault
func_meaning = record { spelling = func_in; replies = λ asked. replies_by (answer_by asked.loaded.func) }
