-- What messages name, as contracts see it.
use Rattle.std.specs.Prelude.{ℕ, List}
use Rattle.cm_tool_stops.specs.declared.names.Names.{Names}

-- the name of the program, and the paths of its keys file and its function file
pub record Named : Type 0 where
  pub program : List ℕ
  pub keys : List ℕ
  pub function : List ℕ

abbrev pub named : Names → Named
named n = record { program = n.program.now; keys = n.keys.now; function = n.function.now }
