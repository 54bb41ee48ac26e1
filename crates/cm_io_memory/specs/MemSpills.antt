-- A spill in memory, as contracts see it.
use Rattle.std.specs.Prelude.{ℕ, List}
use Rattle.cm_io_memory.specs.MemSinks.{SinkInMemory, new_sink}

-- what was appended, as a sink has it, with all faults; the reads so far, and those that fail
pub record SpillInMemory : Type 0 where
  pub appended : SinkInMemory
  pub reads : ℕ
  pub read_fails : List ℕ

-- a spill that was not called yet
abbrev pub new_spill : ℕ → List ℕ → List ℕ → SpillInMemory
new_spill room append_fails read_fails = record { appended = new_sink room append_fails; reads = 0; read_fails = read_fails }
