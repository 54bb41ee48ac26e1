use Rattle.std.proofs.Common.{◌+◌, ◌==◌, refl, ap}
use Rattle.cm_func.specs.Functions.{answer_by}
use Rattle.cm_query.specs.Texts.{notes_of}
use Rattle.cm_query.specs.declared.tally.Tally.{Tally}
use Rattle.cm_query_batch.specs.QueryLaws.{stops_reached}
use Rattle.cm_query_batch.specs.Stops.{noted_keys}
use Rattle.cm_tool_files.proofs.Answering.{answered_until}
use Rattle.cm_tool_files.proofs.asked.AskedFuncAsked.answer.Goals as goal

pub returns-in-Ok-clause-ends : goal.returns-in-Ok-clause-ends
returns-in-Ok-clause-ends g c = λ told is.
    let f = answer_by c.args.self.now.loaded.func in
    let asked = c.in-Ok.ensures in (
      notes_of f told.keys,
      asked.notes told is,
      (record { fault_is = asked.end told is; out = asked.text told is; notes_are = refl }, ap (λ (t : Tally). t.repeated + t.unknown == 0) (asked.tally told is)),
    )

pub returns-in-Err-clause-ends : goal.returns-in-Err-clause-ends
returns-in-Err-clause-ends g c = λ told is.
    let f = answer_by c.args.self.now.loaded.func in
    let asked = c.in-Err.ensures in
    let after = asked.after told is in
    let reached = after.0 in (
      notes_of f (noted_keys told.keys reached c.in-Err.fault),
      after.3,
      answered_until f c.args.end told _ _ reached c.in-Err.fault (stops_reached told _ reached c.in-Err.fault (asked.stops told is) after.1) after.2,
    )
