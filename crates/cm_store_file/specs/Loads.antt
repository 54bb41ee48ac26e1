-- What is loaded from a store file, and why nothing is.
use Rattle.std.specs.Prelude.{◌≡◌, ◌≤◌, ℕ, List, Result, Ok, Err}
use Rattle.cm_io.specs.Causes.{Rose}
use Rattle.cm_store.specs.Stores.{Store}
use Rattle.cm_store_file.specs.StoreFiles.{store_in}
use Rattle.cm_store_file.specs.declared.fault.StoreLoad.{StoreLoad}
use Rattle.cm_store_file.specs.declared.fault.StoreLoad.TheVariants as store_faults

-- Memory may run out, and a source may fail, at any time. Any other fault is the one that the bytes have.
abbrev pub FailsAs : {Y : Type 0} → StoreLoad → Result Y StoreLoad → Type 0
FailsAs store_faults.Memory read = Unit {0}
FailsAs store_faults.Read read = Unit {0}
FailsAs fault read = read ≡ Err fault

-- What a call returned, seen by view, is what the bytes have.
abbrev pub IsRead : {X Y : Type 0} → (X → Y) → Result X StoreLoad → Result Y StoreLoad → Type 0
IsRead view (Ok x) read = read ≡ Ok (view x)
IsRead view (Err fault) read = FailsAs fault read

-- What was loaded, seen by view, is the store whose file the bytes are, or they have this fault.
abbrev pub IsLoaded : {X : Type 0} → (X → Store) → List ℕ → Result X StoreLoad → Type 0
IsLoaded view bytes result = IsRead view result (store_in bytes)

-- A call returns `Read` exactly if the count of faults rose.
abbrev pub HasStoreCause : {T : Type 0} → ℕ → ℕ → Result T StoreLoad → Type 0
HasStoreCause before now (Ok x) = now ≡ before
HasStoreCause before now (Err store_faults.Read) = (before ≤ now) × Rose before now
HasStoreCause before now (Err fault) = now ≡ before

-- The faults of bytes: memory and the source are none.
abbrev pub IsFileFault : StoreLoad → Type 0
IsFileFault store_faults.Memory = ⊥
IsFileFault store_faults.Read = ⊥
IsFileFault fault = Unit {0}
