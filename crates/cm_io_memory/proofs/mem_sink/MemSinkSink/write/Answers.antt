use Rattle.std.proofs.Common.{rules}
use Rattle.cm_io_memory.proofs.mem_sink.MemSinkSink.write.Goals as goal

pub returns-then-fits-piece-clause-listed : goal.returns-then-fits-piece-clause-listed
returns-then-fits-piece-clause-listed c = search rules

pub returns-clause-fails : goal.returns-clause-fails
returns-clause-fails c = search rules

pub returns-clause-listed : goal.returns-clause-listed
returns-clause-listed c = search rules
