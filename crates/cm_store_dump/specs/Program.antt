-- What messages name.
use Rattle.std.specs.Prelude.{ℕ, List}
use Rattle.cm_store_values.specs.Program.{program}
use Rattle.cm_tool_stops.specs.Named.{Named}

abbrev pub naming : List ℕ → List ℕ → Named
naming keys store = record { program = program; keys = keys; function = store }
