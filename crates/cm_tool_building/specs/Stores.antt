-- What storing bytes at a path does to the files.
use Rattle.std.specs.Prelude.{◌≡◌, ◌⊎◌, ℕ, List, [], take, Option, Result, Ok, Err}
use Rattle.cm_io.specs.declared.fault.DiskFault.{DiskFault}
use Rattle.cm_io.specs.declared.fault.DiskFault.TheVariants as disk_fault
use Rattle.cm_io.specs.Files.{Files, with_file}

-- The files are as before, or the path holds a prefix of the bytes.
abbrev pub IsPart : List ℕ → List ℕ → Option Files → Option Files → Type 0
IsPart path bytes old new = (new ≡ old) ⊎ ((n : ℕ) × (new ≡ with_file path (take n bytes) old))

-- `Ok` made the path hold the bytes, and `Failed` a prefix of them, unless the files are as they were.
abbrev pub Stores : List ℕ → List ℕ → Option Files → Option Files → Result (Unit {0}) DiskFault → Type 0
Stores path bytes old new (Ok _) = new ≡ with_file path bytes old
Stores path bytes old new (Err disk_fault.Memory) = (new ≡ old) ⊎ (new ≡ with_file path [] old)
Stores path bytes old new (Err disk_fault.Failed) = IsPart path bytes old new
