-- The name of the program, with which each of its messages begins.
use Rattle.std.specs.Prelude.{ℕ, List, codes}
use Rattle.cm_tool_stops.specs.Named.{Named}

abbrev pub program : List ℕ
program = codes "cmph_filter"

-- what messages name
abbrev pub naming : List ℕ → List ℕ → Named
naming keys filter = record { program = program; keys = keys; function = filter }
