use Rattle.std.proofs.Common.{◌≡◌}
use Rattle.cm_tool_stops.proofs.reporting.explain.Goals as goal

pub returns-in-Refused-clause-noted : goal.returns-in-Refused-clause-noted
returns-in-Refused-clause-noted g c =
    let program : c.as_bytes-program.result.now ≡ c.args.names.now.program.now = c.as_bytes-program.ensures.value in
    rw c.in-Refused.is (rw program at c.note_seed_failure.ensures.noted)

pub returns-in-Read-clause-noted : goal.returns-in-Read-clause-noted
returns-in-Read-clause-noted g c =
    let program : c.as_bytes-program.result.now ≡ c.args.names.now.program.now = c.as_bytes-program.ensures.value in
    let keys : c.as_bytes-keys.result.now ≡ c.args.names.now.keys.now = c.as_bytes-keys.ensures.value in
    rw c.in-Read.is (rw (program, keys) at c.note_unread.ensures.noted)

pub returns-in-Write-clause-noted : goal.returns-in-Write-clause-noted
returns-in-Write-clause-noted g c =
    let program : c.as_bytes-program.result.now ≡ c.args.names.now.program.now = c.as_bytes-program.ensures.value in
    let function : c.as_bytes-function.result.now ≡ c.args.names.now.function.now = c.as_bytes-function.ensures.value in
    rw c.in-Write.is (rw (program, function) at c.note_unwritten.ensures.noted)

pub returns-in-WriteOut-clause-noted : goal.returns-in-WriteOut-clause-noted
returns-in-WriteOut-clause-noted g c =
    let program : c.as_bytes-program.result.now ≡ c.args.names.now.program.now = c.as_bytes-program.ensures.value in
    rw c.in-WriteOut.is (rw program at c.note_out_fault.ensures.noted)

pub returns-in-Memory-clause-noted : goal.returns-in-Memory-clause-noted
returns-in-Memory-clause-noted g c =
    let program : c.as_bytes-program.result.now ≡ c.args.names.now.program.now = c.as_bytes-program.ensures.value in
    rw c.in-Memory.is (rw program at c.note_want_of_memory.ensures.noted)

pub returns-in-Changed-clause-noted : goal.returns-in-Changed-clause-noted
returns-in-Changed-clause-noted g c =
    let program : c.as_bytes-program.result.now ≡ c.args.names.now.program.now = c.as_bytes-program.ensures.value in
    let keys : c.as_bytes-keys.result.now ≡ c.args.names.now.keys.now = c.as_bytes-keys.ensures.value in
    rw c.in-Changed.is (rw (program, keys) at c.note_change.ensures.noted)

pub returns-in-Spill-clause-noted : goal.returns-in-Spill-clause-noted
returns-in-Spill-clause-noted g c =
    let program : c.as_bytes-program.result.now ≡ c.args.names.now.program.now = c.as_bytes-program.ensures.value in
    rw c.in-Spill.is (rw program at c.note_pieces.ensures.noted)

pub returns-in-SpillDamaged-clause-noted : goal.returns-in-SpillDamaged-clause-noted
returns-in-SpillDamaged-clause-noted g c =
    let program : c.as_bytes-program.result.now ≡ c.args.names.now.program.now = c.as_bytes-program.ensures.value in
    rw c.in-SpillDamaged.is (rw program at c.note_damage.ensures.noted)

pub returns-in-NoKeys-clause-noted : goal.returns-in-NoKeys-clause-noted
returns-in-NoKeys-clause-noted g c =
    let program : c.as_bytes-program.result.now ≡ c.args.names.now.program.now = c.as_bytes-program.ensures.value in
    let keys : c.as_bytes-keys.result.now ≡ c.args.names.now.keys.now = c.as_bytes-keys.ensures.value in
    rw c.in-NoKeys.is (rw (program, keys) at c.note_pieces-in-NoKeys.ensures.noted)

pub returns-in-TooLong-clause-noted : goal.returns-in-TooLong-clause-noted
returns-in-TooLong-clause-noted g c =
    let program : c.as_bytes-program.result.now ≡ c.args.names.now.program.now = c.as_bytes-program.ensures.value in
    let keys : c.as_bytes-keys.result.now ≡ c.args.names.now.keys.now = c.as_bytes-keys.ensures.value in
    rw c.in-TooLong.is (rw (program, keys) at c.note_long_line.ensures.noted)

pub returns-in-TooMany-clause-noted : goal.returns-in-TooMany-clause-noted
returns-in-TooMany-clause-noted g c =
    let program : c.as_bytes-program.result.now ≡ c.args.names.now.program.now = c.as_bytes-program.ensures.value in
    let keys : c.as_bytes-keys.result.now ≡ c.args.names.now.keys.now = c.as_bytes-keys.ensures.value in
    rw c.in-TooMany.is (rw (program, keys) at c.note_many_keys.ensures.noted)

pub returns-in-TooLarge-clause-noted : goal.returns-in-TooLarge-clause-noted
returns-in-TooLarge-clause-noted g c =
    let program : c.as_bytes-program.result.now ≡ c.args.names.now.program.now = c.as_bytes-program.ensures.value in
    let keys : c.as_bytes-keys.result.now ≡ c.args.names.now.keys.now = c.as_bytes-keys.ensures.value in
    rw c.in-TooLarge.is (rw (program, keys) at c.note_large_records.ensures.noted)
