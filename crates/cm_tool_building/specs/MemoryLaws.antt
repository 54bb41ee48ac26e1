-- A build for which memory ran out before it began, for top calls.
use Rattle.std.proofs.Common.{Err, inl, refl, arith}
use Rattle.cm_io.specs.States.{DiskState, IsSent, SinkState, outside}
use Rattle.cm_tool_building.specs.Building.{Building}
use Rattle.cm_tool_building.specs.Builds.{Builds, frame_of}
use Rattle.cm_tool_stops.specs.DoesLaws.{unbegun}
use Rattle.cm_tool_stops.specs.Ends.{Says}
use Rattle.cm_tool_stops.specs.Messages.{out_of_memory}
use Rattle.cm_tool_stops.specs.declared.stop.Stop.TheVariants.{Memory}

pub unbuilt : {M : Type 0} (b : Building M) (disk : DiskState) (out err_old err_new : SinkState) → Says err_old err_new (out_of_memory b.named.program) → IsSent err_old err_new → Builds b (outside disk out err_old) (outside disk out err_new) 6
unbuilt b disk out err_old err_new says sent = record {
  does = unbegun (frame_of b) disk out err_old err_new refl sent (record { write = λ five. absurd (omega (arith, five)); memory = λ _. inl refl }) (Err Memory, record { form = tt; out_cause = refl; status_is = refl; says = says });
  saved = λ zero. absurd (omega (arith, zero));
  refused = λ one. absurd (omega (arith, one));
}
