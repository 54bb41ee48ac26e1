-- Files in memory, seen as a finite map.
use Rattle.std.specs.Prelude.{ℕ, List, map, string_bytes}
use Rattle.std.specs.FinMap as maps
use Rattle.cm_io.specs.Files.{Files}
use Rattle.cm_outer.specs.declared.mem_file.MemFile.{MemFile}

-- the path and the bytes of a file
abbrev pub entry_of : MemFile → List ℕ × List ℕ
entry_of file = (string_bytes file.path, file.bytes.items)

-- the map of a list of files
abbrev pub files_of : List MemFile → Files
files_of files = maps.from_entries (map entry_of files)
