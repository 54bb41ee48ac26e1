-- A query for which memory ran out before it began, for top calls.
use Rattle.std.proofs.Common.{[], Err, refl, arith}
use Rattle.cm_io.specs.States.{DiskState, IsSent, SinkState, outside}
use Rattle.cm_tool_asking.specs.Asking.{Asking}
use Rattle.cm_tool_asking.specs.Asks.{Asks, frame_of}
use Rattle.cm_tool_stops.specs.DoesLaws.{unbegun}
use Rattle.cm_tool_stops.specs.Ends.{Says}
use Rattle.cm_tool_stops.specs.Messages.{out_of_memory}
use Rattle.cm_tool_stops.specs.declared.stop.QueryStop.TheVariants.{Memory}

pub unasked : {L F : Type 0} (a : Asking L F) (disk : DiskState) (out err_old err_new : SinkState) → Says err_old err_new (out_of_memory a.named.program) → IsSent err_old err_new → Asks a (outside disk out err_old) (outside disk out err_new) 6
unasked a disk out err_old err_new says sent = record {
  does = unbegun (frame_of a) disk out err_old err_new refl sent (λ files known. record {
    notes = [];
    text = out_of_memory a.named.program;
    says = says;
    read = λ four. absurd (omega (arith, four));
    write = λ five. absurd (omega (arith, five));
    memory = λ _. ((refl, refl), refl);
  }) (Err Memory, record { notes = []; status_is = refl; says = says });
  answered = λ either. absurd (omega (arith, either));
  refused = λ three. absurd (omega (arith, three));
}
