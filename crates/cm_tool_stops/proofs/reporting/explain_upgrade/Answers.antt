use Rattle.std.proofs.Common.{◌≡◌}
use Rattle.cm_tool_stops.proofs.reporting.explain_upgrade.Goals as goal

pub returns-in-Memory-clause-noted : goal.returns-in-Memory-clause-noted
returns-in-Memory-clause-noted g c =
    let program : c.as_bytes-program.result.now ≡ c.args.names.now.program.now = c.as_bytes-program.ensures.value in
    rw c.in-Memory.is (rw program at c.note_want_of_memory.ensures.noted)

pub returns-in-Read-clause-noted : goal.returns-in-Read-clause-noted
returns-in-Read-clause-noted g c =
    let program : c.as_bytes-program.result.now ≡ c.args.names.now.program.now = c.as_bytes-program.ensures.value in
    let function : c.as_bytes-function.result.now ≡ c.args.names.now.function.now = c.as_bytes-function.ensures.value in
    rw c.in-Read.is (rw (program, function) at c.note_unread.ensures.noted)

pub returns-in-BadDump-clause-noted : goal.returns-in-BadDump-clause-noted
returns-in-BadDump-clause-noted g c =
    let program : c.as_bytes-program.result.now ≡ c.args.names.now.program.now = c.as_bytes-program.ensures.value in
    let function : c.as_bytes-function.result.now ≡ c.args.names.now.function.now = c.as_bytes-function.ensures.value in
    rw c.in-BadDump.is (rw (program, function) at c.explain_dump.ensures.noted)

pub returns-in-Write-clause-noted : goal.returns-in-Write-clause-noted
returns-in-Write-clause-noted g c =
    let program : c.as_bytes-program.result.now ≡ c.args.names.now.program.now = c.as_bytes-program.ensures.value in
    let function : c.as_bytes-function.result.now ≡ c.args.names.now.function.now = c.as_bytes-function.ensures.value in
    rw c.in-Write.is (rw (program, function) at c.note_unwritten.ensures.noted)
