-- What an upgrade does to a function file.
use Rattle.std.specs.Prelude.{◌≡◌, ◌≤◌, ◌⊎◌, ℕ, List, [], Option, Some, Result, Ok, Err}
use Rattle.std.specs.Option.{ForSome}
use Rattle.std.specs.FinMap as map
use Rattle.cm_dump.specs.Dumps.{dump_of}
use Rattle.cm_dump.specs.Forms.{version_of}
use Rattle.cm_dump.specs.Spelling.{spelling_of}
use Rattle.cm_dump.specs.declared.versions.Version.{Version}
use Rattle.cm_dump.specs.declared.versions.Version.TheVariants.{One, Two}
use Rattle.cm_dump_items.specs.declared.fault.LoadFault.{LoadFault}
use Rattle.cm_func.specs.declared.function.Func.{Func}
use Rattle.cm_io.specs.Causes.{Rose}
use Rattle.cm_io.specs.Files.{Files, file_at, with_file}
use Rattle.cm_io.specs.States.{DiskState}
use Rattle.cm_tool_asking.specs.declared.unloaded.Unloaded.{Unloaded}
use Rattle.cm_tool_asking.specs.declared.unloaded.Unloaded.TheVariants as unloaded
use Rattle.cm_tool_files.specs.Asked.{IsBadDump}
use Rattle.cm_tool_building.specs.Stores.{IsPart}
use Rattle.cm_tool_stops.specs.declared.stop.UpgradeStop.{UpgradeStop}
use Rattle.cm_tool_stops.specs.declared.stop.UpgradeStop.TheVariants.{Memory, Read, BadDump, Write}

-- which counts of the disk an upgrade has raised: none, if it came to its end
abbrev pub HasUpgradeCause : DiskState → DiskState → Result (Unit {0}) UpgradeStop → Type 0
HasUpgradeCause old new (Err Read) = (old.read_faults ≤ new.read_faults) × Rose old.read_faults new.read_faults × (new.write_faults ≡ old.write_faults)
HasUpgradeCause old new (Err Write) = (new.read_faults ≡ old.read_faults) × (old.write_faults ≤ new.write_faults) × Rose old.write_faults new.write_faults
HasUpgradeCause old new result = (new.read_faults ≡ old.read_faults) × (new.write_faults ≡ old.write_faults)

-- why a failed load stops an upgrade
abbrev pub upgrade_stop_from : Unloaded LoadFault → UpgradeStop
upgrade_stop_from unloaded.Memory = Memory
upgrade_stop_from unloaded.Read = Read
upgrade_stop_from (unloaded.Bad fault) = BadDump fault

-- why no function was loaded from a file: unless memory ran out or it could not be read, its bytes have this fault
abbrev pub RefusesDump : Files → List ℕ → Unloaded LoadFault → Type 0
RefusesDump files path unloaded.Memory = Unit {0}
RefusesDump files path unloaded.Read = Unit {0}
RefusesDump files path (unloaded.Bad fault) = IsBadDump files path fault

-- the files once the function of a file of a version was upgraded: a file of version 2 is left as it is
abbrev pub upgraded : Files → List ℕ → Version → Func → Files
upgraded files path One f = map.insert files path (dump_of f)
upgraded files path Two f = files

-- the function file spells the function in version 1
abbrev pub SpellsOld : Files → List ℕ → Func → Type 0
SpellsOld files path f = (dump : List ℕ) × (file_at files path ≡ Some dump) × (spelling_of dump ≡ Ok f) × (version_of dump ≡ One)

-- what each end of an upgrade leaves of the files. Memory may run out once the function is loaded, and then the function file may be
-- empty.
abbrev pub EndsUpgrade : List ℕ → Option Files → Option Files → Result (Unit {0}) UpgradeStop → Type 0
EndsUpgrade path old new (Ok _) = ForSome old (λ files. (dump : List ℕ) × (f : Func) × (file_at files path ≡ Some dump) × (spelling_of dump ≡ Ok f) × (new ≡ Some (upgraded files path (version_of dump) f)))
EndsUpgrade path old new (Err Memory) = (new ≡ old) ⊎ ((new ≡ with_file path [] old) × ForSome old (λ files. (f : Func) × SpellsOld files path f))
EndsUpgrade path old new (Err Read) = new ≡ old
EndsUpgrade path old new (Err (BadDump fault)) = (new ≡ old) × ForSome old (λ files. IsBadDump files path fault)
EndsUpgrade path old new (Err Write) = ForSome old (λ files. (f : Func) × SpellsOld files path f × IsPart path (dump_of f) old new)
