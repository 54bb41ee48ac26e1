use Rattle.std.proofs.Common.{◌≡◌}
use Rattle.cm_tool_stops.proofs.reporting.explain_query.Goals as goal

pub returns-in-Memory-clause-noted : goal.returns-in-Memory-clause-noted
returns-in-Memory-clause-noted g c =
    let program : c.as_bytes-program.result.now ≡ c.args.names.now.program.now = c.as_bytes-program.ensures.value in
    rw c.in-Memory.is (rw program at c.note_want_of_memory.ensures.noted)

pub returns-in-NoFunction-clause-noted : goal.returns-in-NoFunction-clause-noted
returns-in-NoFunction-clause-noted g c =
    let program : c.as_bytes-program.result.now ≡ c.args.names.now.program.now = c.as_bytes-program.ensures.value in
    let function : c.as_bytes.result.now ≡ c.args.names.now.function.now = c.as_bytes.ensures.value in
    rw c.in-NoFunction.is (rw (program, function) at c.note_unread.ensures.noted)

pub returns-in-BadFile-clause-noted : goal.returns-in-BadFile-clause-noted
returns-in-BadFile-clause-noted g c = rw c.in-BadFile.is c.explain.ensures.noted

pub returns-in-Read-clause-noted : goal.returns-in-Read-clause-noted
returns-in-Read-clause-noted g c =
    let program : c.as_bytes-program.result.now ≡ c.args.names.now.program.now = c.as_bytes-program.ensures.value in
    let keys : c.as_bytes-keys.result.now ≡ c.args.names.now.keys.now = c.as_bytes-keys.ensures.value in
    rw c.in-Read.is (rw (program, keys) at c.note_unread-in-Read.ensures.noted)

pub returns-in-Write-clause-noted : goal.returns-in-Write-clause-noted
returns-in-Write-clause-noted g c =
    let program : c.as_bytes-program.result.now ≡ c.args.names.now.program.now = c.as_bytes-program.ensures.value in
    rw c.in-Write.is (rw program at c.note_out_fault.ensures.noted)

pub returns-in-TooLong-clause-noted : goal.returns-in-TooLong-clause-noted
returns-in-TooLong-clause-noted g c =
    let program : c.as_bytes-program.result.now ≡ c.args.names.now.program.now = c.as_bytes-program.ensures.value in
    let keys : c.as_bytes-keys.result.now ≡ c.args.names.now.keys.now = c.as_bytes-keys.ensures.value in
    rw c.in-TooLong.is (rw (program, keys) at c.note_long_line.ensures.noted)

pub returns-in-TooMany-clause-noted : goal.returns-in-TooMany-clause-noted
returns-in-TooMany-clause-noted g c =
    let program : c.as_bytes-program.result.now ≡ c.args.names.now.program.now = c.as_bytes-program.ensures.value in
    let keys : c.as_bytes-keys.result.now ≡ c.args.names.now.keys.now = c.as_bytes-keys.ensures.value in
    rw c.in-TooMany.is (rw (program, keys) at c.note_many_keys.ensures.noted)
