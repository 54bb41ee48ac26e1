-- What is read of a store file, step after step: the first fault is the answer.
use Rattle.std.specs.Prelude.{Result, Ok, Err}
use Rattle.cm_dump_items.specs.declared.fault.LoadFault.{LoadFault}
use Rattle.cm_dump_items.specs.declared.fault.LoadFault.TheVariants as faults
use Rattle.cm_store_file.specs.declared.fault.StoreLoad.{StoreLoad}
use Rattle.cm_store_file.specs.declared.fault.StoreLoad.TheVariants as store_faults

-- one step, and then what is read with it
infixl 10 ◌>>=◌
abbrev pub ◌>>=◌ : {A B : Type 0} → Result A StoreLoad → (A → Result B StoreLoad) → Result B StoreLoad
(Ok x) >>= f = f x
(Err e) >>= f = Err e

-- The fault of an item, as a fault of a store file. Those that no item of a store file has are the index's.
abbrev pub fault_named : LoadFault → StoreLoad
fault_named faults.Memory = store_faults.Memory
fault_named faults.Read = store_faults.Read
fault_named (faults.Truncated at) = store_faults.Truncated at
fault_named faults.BadMagic = store_faults.BadMagic
fault_named (faults.BadField at) = store_faults.BadField at
fault_named faults.Trailing = store_faults.Trailing
fault_named faults.BadAlgorithm = store_faults.BadIndex
fault_named (faults.BadPadding at) = store_faults.BadIndex
fault_named (faults.BadCell at) = store_faults.BadIndex
fault_named (faults.BadCount at) = store_faults.BadIndex
fault_named (faults.BadRank at) = store_faults.BadIndex

-- an item, as a step
abbrev pub lifted : {A : Type 0} → Result A LoadFault → Result A StoreLoad
lifted (Ok x) = Ok x
lifted (Err e) = Err (fault_named e)
