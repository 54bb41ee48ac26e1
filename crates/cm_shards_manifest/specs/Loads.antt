-- What is read of a manifest, and why nothing is.
use Rattle.std.specs.Prelude.{◌≡◌, List, ℕ, Result, Ok, Err}
use Rattle.cm_dump_items.specs.declared.fault.LoadFault.{LoadFault}
use Rattle.cm_dump_items.specs.declared.fault.LoadFault.TheVariants as faults
use Rattle.cm_shards_manifest.specs.ManifestFiles.{manifest_in}
use Rattle.cm_shards_manifest.specs.Manifests.{Manifest}
use Rattle.cm_shards_manifest.specs.Steps.{fault_named}
use Rattle.cm_shards_manifest.specs.declared.fault.ManifestFault.{ManifestFault}
use Rattle.cm_shards_manifest.specs.declared.fault.ManifestUnread.{ManifestUnread}
use Rattle.cm_shards_manifest.specs.declared.fault.ManifestUnread.TheVariants.{Bad, Memory}

-- Memory may run out at any time. Any other fault is the one that the bytes have.
abbrev pub FailsAs : {Y : Type 0} → ManifestUnread → Result Y ManifestFault → Type 0
FailsAs Memory read = Unit {0}
FailsAs (Bad fault) read = read ≡ Err fault

-- What a call returned, seen by view, is what the bytes have.
abbrev pub IsRead : {X Y : Type 0} → (X → Y) → Result X ManifestUnread → Result Y ManifestFault → Type 0
IsRead view (Ok x) read = read ≡ Ok (view x)
IsRead view (Err fault) read = FailsAs fault read

-- The fault of an item, as why no manifest was read. No item in memory fails to be read.
abbrev pub unread_named : LoadFault → ManifestUnread
unread_named faults.Memory = Memory
unread_named faults.Read = Memory
unread_named (faults.Truncated at) = Bad (fault_named (faults.Truncated at))
unread_named faults.BadMagic = Bad (fault_named faults.BadMagic)
unread_named faults.BadAlgorithm = Bad (fault_named faults.BadAlgorithm)
unread_named (faults.BadField at) = Bad (fault_named (faults.BadField at))
unread_named (faults.BadPadding at) = Bad (fault_named (faults.BadPadding at))
unread_named (faults.BadCell at) = Bad (fault_named (faults.BadCell at))
unread_named (faults.BadCount at) = Bad (fault_named (faults.BadCount at))
unread_named (faults.BadRank at) = Bad (fault_named (faults.BadRank at))
unread_named faults.Trailing = Bad (fault_named faults.Trailing)

-- What was read, seen by view, is the manifest whose file the bytes are, or they have this fault.
abbrev pub IsLoaded : {X : Type 0} → (X → Manifest) → List ℕ → Result X ManifestUnread → Type 0
IsLoaded view bytes result = IsRead view result (manifest_in bytes)
