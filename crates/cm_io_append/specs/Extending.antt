-- What a call that appends to a file makes of the known files.
use Rattle.std.specs.Prelude.{◌≡◌, ◌++◌, ℕ, List, [], Option, Result, Ok, Err, take, unwrap_or}
use Rattle.std.specs.Option.{option_map}
use Rattle.std.specs.FinMap as map
use Rattle.cm_io.specs.Files.{Files, file_at}
use Rattle.cm_io.specs.declared.fault.DiskFault.{DiskFault}
use Rattle.cm_io.specs.declared.fault.DiskFault.TheVariants as disk_fault

-- the bytes of a path; one that isn't there has none
abbrev pub bytes_or_none : List ℕ → Files → List ℕ
bytes_or_none path files = unwrap_or (file_at files path) []

-- the files, with these bytes behind those of the path
abbrev pub extended : List ℕ → List ℕ → Option Files → Option Files
extended path piece known = option_map (λ files. map.insert files path (bytes_or_none path files ++ piece)) known

-- `Ok` appended the piece, and `Failed` a prefix of it. If memory ran out, the files are as they were.
abbrev pub Extends : List ℕ → List ℕ → Option Files → Option Files → Result (Unit {0}) DiskFault → Type 0
Extends path piece old new (Ok _) = new ≡ extended path piece old
Extends path piece old new (Err disk_fault.Failed) = (n : ℕ) × (new ≡ extended path (take n piece) old)
Extends path piece old new (Err disk_fault.Memory) = new ≡ old
