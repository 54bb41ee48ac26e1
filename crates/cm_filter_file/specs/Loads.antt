-- What is loaded from a filter file, and why nothing is.
use Rattle.std.specs.Prelude.{◌≡◌, ◌≤◌, ℕ, List, Result, Ok, Err}
use Rattle.cm_dump_items.specs.declared.fault.LoadFault.{LoadFault}
use Rattle.cm_dump_items.specs.declared.fault.LoadFault.TheVariants as faults
use Rattle.cm_filter.specs.Filters.{Filter}
use Rattle.cm_io.specs.Causes.{Rose}
use Rattle.cm_filter_file.specs.FilterFiles.{IsFileFault, filter_in}
use Rattle.cm_filter_file.specs.declared.fault.FilterFault.{FilterFault}
use Rattle.cm_filter_file.specs.declared.fault.FilterFault.TheVariants as filter_faults

-- Memory may run out, and a source may fail, at any time. Any other fault is the one that the bytes have.
abbrev pub IsFault : List ℕ → FilterFault → Type 0
IsFault bytes filter_faults.Memory = Unit {0}
IsFault bytes filter_faults.Read = Unit {0}
IsFault bytes fault = filter_in bytes ≡ Err fault

-- What was loaded, seen by view, is the filter whose file the bytes are, or they have this fault.
abbrev pub IsLoaded : {X : Type 0} → (X → Filter) → List ℕ → Result X FilterFault → Type 0
IsLoaded view bytes (Ok x) = filter_in bytes ≡ Ok (view x)
IsLoaded view bytes (Err fault) = IsFault bytes fault

-- A call returns `Read` exactly if the count of faults rose.
abbrev pub HasFilterCause : {T : Type 0} → ℕ → ℕ → Result T FilterFault → Type 0
HasFilterCause before now (Ok x) = now ≡ before
HasFilterCause before now (Err filter_faults.Read) = (before ≤ now) × Rose before now
HasFilterCause before now (Err fault) = now ≡ before

-- The faults of a filter file that is read: those of bytes, or memory runs out, or the source fails.
abbrev pub IsReadFault : LoadFault → Type 0
IsReadFault faults.Memory = Unit {0}
IsReadFault faults.Read = Unit {0}
IsReadFault fault = IsFileFault fault
