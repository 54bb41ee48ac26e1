-- What is read of a manifest, step after step: the first fault is the answer.
use Rattle.std.specs.Prelude.{Result, Ok, Err}
use Rattle.cm_dump_items.specs.declared.fault.LoadFault.{LoadFault}
use Rattle.cm_dump_items.specs.declared.fault.LoadFault.TheVariants as faults
use Rattle.cm_shards_manifest.specs.declared.fault.ManifestFault.{ManifestFault}
use Rattle.cm_shards_manifest.specs.declared.fault.ManifestFault.TheVariants as manifest_faults

-- one step, and then what is read with it
infixl 10 ◌>>=◌
abbrev pub ◌>>=◌ : {A B : Type 0} → Result A ManifestFault → (A → Result B ManifestFault) → Result B ManifestFault
(Ok x) >>= f = f x
(Err e) >>= f = Err e

-- The fault of an item, as a fault of a manifest. No item of a manifest has one of the last seven.
abbrev pub fault_named : LoadFault → ManifestFault
fault_named (faults.Truncated at) = manifest_faults.Truncated at
fault_named faults.BadMagic = manifest_faults.BadMagic
fault_named (faults.BadField at) = manifest_faults.BadField at
fault_named faults.Trailing = manifest_faults.Trailing
fault_named faults.Memory = manifest_faults.BadMagic
fault_named faults.Read = manifest_faults.BadMagic
fault_named faults.BadAlgorithm = manifest_faults.BadMagic
fault_named (faults.BadPadding at) = manifest_faults.BadMagic
fault_named (faults.BadCell at) = manifest_faults.BadMagic
fault_named (faults.BadCount at) = manifest_faults.BadMagic
fault_named (faults.BadRank at) = manifest_faults.BadMagic

-- an item, as a step
abbrev pub lifted : {A : Type 0} → Result A LoadFault → Result A ManifestFault
lifted (Ok x) = Ok x
lifted (Err e) = Err (fault_named e)
