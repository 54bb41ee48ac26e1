-- From the parts of an upgrade to how it ends.
use Rattle.std.proofs.Common.{◌≡◌, ◌∙◌, ℕ, List, [], Option, Err, inl, inr, ap, sym}
use Rattle.std.specs.Option.{ForSome}
use Rattle.cm_dump.specs.declared.reader.Loaded.{Loaded}
use Rattle.cm_dump.specs.declared.versions.Version.TheVariants.{One}
use Rattle.cm_dump_items.specs.declared.fault.LoadFault.{LoadFault}
use Rattle.cm_io.specs.Files.{Files, with_file}
use Rattle.cm_io.specs.States.{DiskState}
use Rattle.cm_io.specs.declared.fault.DiskFault.TheVariants as disk_fault
use Rattle.cm_tool_asking.specs.Loads.{IsLoadCause, Loads}
use Rattle.cm_tool_asking.specs.declared.unloaded.Unloaded.{Unloaded}
use Rattle.cm_tool_asking.specs.declared.unloaded.Unloaded.TheVariants as unloaded
use Rattle.cm_tool_building.specs.Stores.{Stores}
use Rattle.cm_tool_files.specs.Asked.{SpellsAs, func_in}
use Rattle.cm_tool_files.specs.AskedLaws.{is_bad_dump}
use Rattle.cm_tool_files.specs.Upgrades.{EndsUpgrade, HasUpgradeCause, RefusesDump, upgrade_stop_from}
use Rattle.cm_tool_stops.specs.declared.stop.UpgradeStop.TheVariants as upgrade_stop

-- why no function was loaded
pub refused_dump : (files : Files) (path : List ℕ) (fault : Unloaded LoadFault) → Loads func_in files path (Err fault) → RefusesDump files path fault
refused_dump files path unloaded.Memory loads = tt
refused_dump files path unloaded.Read loads = tt
refused_dump files path (unloaded.Bad fault) loads = is_bad_dump files path fault loads

-- the cause of an upgrade that stopped at a failed load
pub upgrade_cause : (fault : Unloaded LoadFault) (old new : DiskState) → IsLoadCause old.read_faults new.read_faults fault → new.write_faults ≡ old.write_faults → HasUpgradeCause old new (Err (upgrade_stop_from fault))
upgrade_cause unloaded.Memory old new cause same = (cause, same)
upgrade_cause unloaded.Read old new cause same = (cause.0, cause.1, same)
upgrade_cause (unloaded.Bad fault) old new cause same = (cause, same)

-- an upgrade without a function
pub not_upgraded : (path : List ℕ) (old new : Option Files) (fault : Unloaded LoadFault) → new ≡ old → ForSome old (λ files. RefusesDump files path fault) → EndsUpgrade path old new (Err (upgrade_stop_from fault))
not_upgraded path old new unloaded.Memory same refuses = inl same
not_upgraded path old new unloaded.Read same refuses = same
not_upgraded path old new (unloaded.Bad fault) same refuses = (same, refuses)

-- one for which memory ran out once its function was loaded
pub emptied : (path bytes : List ℕ) (loaded : Loaded) (old mid new : Option Files) → mid ≡ old → loaded.version ≡ One → ForSome old (λ files. SpellsAs files path loaded) → Stores path bytes mid new (Err disk_fault.Memory) → EndsUpgrade path old new (Err upgrade_stop.Memory)
emptied path bytes loaded old mid new same is_old spells (inl kept) = inl (kept ∙ same)
emptied path bytes loaded old mid new same is_old spells (inr left) = inr (
  left ∙ ap (with_file path []) same,
  λ files is. let here = spells files is in (loaded.func, (here.0, here.1, here.2, sym here.3 ∙ is_old)),
)
