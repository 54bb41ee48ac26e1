-- Lemmas about function files that are asked for keys, for those who ask them.
use Rattle.std.proofs.Common.{◌≡◌, ℕ, List, Result, Ok, Err, ap, sym}
use Rattle.cm_dump.specs.Forms.{version_of}
use Rattle.cm_dump.specs.Spelling.{spelling_of}
use Rattle.cm_dump.specs.declared.versions.Version.{Version}
use Rattle.cm_dump_items.specs.declared.fault.LoadFault.{LoadFault}
use Rattle.cm_func.specs.declared.function.Func.{Func}
use Rattle.cm_io.specs.Files.{Files}
use Rattle.cm_tool_asking.specs.Loads as loads
use Rattle.cm_tool_files.specs.Asked.{IsBadDump, SpellsAs, func_by, func_in}
use Rattle.cm_tool_files.specs.declared.asked.AskedFunc.{AskedFunc}

-- what is known of a dump by what was loaded from it
by_ok : (version : Version) (spelled : Result Func LoadFault) (x : AskedFunc) → func_by version spelled ≡ Ok x → (spelled ≡ Ok x.loaded.func) × (x.loaded.version ≡ version)
by_ok version (Ok f) x is = let same : x ≡ record { loaded = record { func = f; version = version } } = cc is in (ap (λ (y : AskedFunc). Ok y.loaded.func) (sym same), ap (λ (y : AskedFunc). y.loaded.version) same)
by_ok version (Err fault) x is = absurd (cc is)

by_err : (version : Version) (spelled : Result Func LoadFault) (fault : LoadFault) → func_by version spelled ≡ Err fault → spelled ≡ Err fault
by_err version (Ok f) fault is = absurd (cc is)
by_err version (Err other) fault is = cc is

pub spells_func : (files : Files) (path : List ℕ) (x : AskedFunc) → loads.Spells func_in files path x → SpellsAs files path x.loaded
spells_func files path x spells =
    let by = by_ok (version_of spells.0) (spelling_of spells.0) x spells.2 in
    (spells.0, spells.1, by.0, by.1)

pub is_bad_dump : (files : Files) (path : List ℕ) (fault : LoadFault) → loads.IsBad func_in files path fault → IsBadDump files path fault
is_bad_dump files path fault bad = (bad.0, bad.1, by_err (version_of bad.0) (spelling_of bad.0) fault bad.2)
