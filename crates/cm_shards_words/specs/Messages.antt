-- What the jobs of shards say of files on err. Each message begins with the name of the program.
use Rattle.std.specs.Prelude.{ℕ, List, [], ◌∷◌, codes, decimal}
use Rattle.cm_io.specs.Writing.{joined}
use Rattle.cm_io.specs.declared.key_pass.KeyFault.{KeyFault}
use Rattle.cm_io.specs.declared.key_pass.KeyFault.TheVariants.{Read, TooLong, TooMany}
use Rattle.cm_shards_words.specs.Program.{program}
use Rattle.cm_tool_stops.specs.Messages.{cannot_read, line_too_long}

-- what is said of a file
abbrev pub file_message : List ℕ → List ℕ → List ℕ
file_message file what = joined (program ∷ codes ": " ∷ file ∷ what ∷ [])

-- what is said of a line of it: the number of the line stands between two texts
abbrev pub line_message : List ℕ → List ℕ → ℕ → List ℕ → List ℕ
line_message file before line after = joined (program ∷ codes ": " ∷ file ∷ before ∷ decimal line ∷ after ∷ [])

-- what is said of a file that is read, and that the job would make
abbrev pub would_overwrite : List ℕ → List ℕ
would_overwrite file = file_message file (codes ": would be overwritten\n")

-- what is said of more lines than are read
abbrev pub too_many_lines : List ℕ → List ℕ
too_many_lines file = file_message file (codes ": too many lines\n")

-- what is said of the fault at the end of the lines of a file
abbrev pub line_fault_message : List ℕ → KeyFault → List ℕ
line_fault_message file Read = cannot_read program file
line_fault_message file (TooLong line) = line_too_long program file line
line_fault_message file TooMany = too_many_lines file
