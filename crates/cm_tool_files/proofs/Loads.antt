-- From what the dump's reader says to what a file says that is asked for keys.
use Rattle.std.proofs.Common.{◌≡◌, ◌∙◌, ℕ, List, Ok, Err, ap, sym}
use Rattle.cm_dump.specs.Forms.{version_of}
use Rattle.cm_dump.specs.Spelling.{spelling_of}
use Rattle.cm_dump.specs.declared.reader.Loaded.{Loaded}
use Rattle.cm_dump.specs.declared.versions.Version.{Version}
use Rattle.cm_dump_items.specs.Reading as items
use Rattle.cm_dump_items.specs.declared.fault.LoadFault.{LoadFault}
use Rattle.cm_dump_items.specs.declared.fault.LoadFault.TheVariants as faults
use Rattle.cm_tool_asking.specs.Loads.{IsLoadCause, IsSpelled}
use Rattle.cm_tool_files.specs.Asked.{func_by, func_in, unloaded_from}

-- a function that was loaded
pub spelled_by : (bytes : List ℕ) (loaded : Loaded) → spelling_of bytes ≡ Ok loaded.func → loaded.version ≡ version_of bytes → func_in bytes ≡ Ok (record { loaded = loaded })
spelled_by bytes loaded is version =
    ap (func_by (version_of bytes)) is ∙ ap (λ (v : Version). Ok (record { loaded = record { func = loaded.func; version = v } })) (sym version)

-- the cause of a failed load
pub unloaded_cause : (fault : LoadFault) (r r_now : ℕ) → items.HasLoadCause {T = Loaded} r r_now (Err fault) → IsLoadCause r r_now (unloaded_from fault)
unloaded_cause faults.Memory r r_now cause = cause
unloaded_cause faults.Read r r_now cause = cause
unloaded_cause (faults.Truncated at) r r_now cause = cause
unloaded_cause faults.BadMagic r r_now cause = cause
unloaded_cause faults.BadAlgorithm r r_now cause = cause
unloaded_cause (faults.BadField at) r r_now cause = cause
unloaded_cause (faults.BadPadding at) r r_now cause = cause
unloaded_cause (faults.BadCell at) r r_now cause = cause
unloaded_cause (faults.BadCount at) r r_now cause = cause
unloaded_cause (faults.BadRank at) r r_now cause = cause
unloaded_cause faults.Trailing r r_now cause = cause

-- and what the bytes have then
pub unloaded_by : (fault : LoadFault) (bytes : List ℕ) → items.Fails fault (spelling_of bytes) → IsSpelled func_in bytes (Err (unloaded_from fault))
unloaded_by faults.Memory bytes fails = tt
unloaded_by faults.Read bytes fails = tt
unloaded_by (faults.Truncated at) bytes fails = ap (func_by (version_of bytes)) fails
unloaded_by faults.BadMagic bytes fails = ap (func_by (version_of bytes)) fails
unloaded_by faults.BadAlgorithm bytes fails = ap (func_by (version_of bytes)) fails
unloaded_by (faults.BadField at) bytes fails = ap (func_by (version_of bytes)) fails
unloaded_by (faults.BadPadding at) bytes fails = ap (func_by (version_of bytes)) fails
unloaded_by (faults.BadCell at) bytes fails = ap (func_by (version_of bytes)) fails
unloaded_by (faults.BadCount at) bytes fails = ap (func_by (version_of bytes)) fails
unloaded_by (faults.BadRank at) bytes fails = ap (func_by (version_of bytes)) fails
unloaded_by faults.Trailing bytes fails = ap (func_by (version_of bytes)) fails
