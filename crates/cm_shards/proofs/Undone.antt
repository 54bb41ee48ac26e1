-- A query for which memory ran out before it began.
use Rattle.std.proofs.Common.{[], Err, refl, arith}
use Rattle.cm_io.specs.States.{DiskState, IsSent, SinkState, outside}
use Rattle.cm_shards_query.specs.Asks.{AsksShards, frame_of}
use Rattle.cm_shards_query.specs.declared.stop.AskStop.TheVariants as ask_stop
use Rattle.cm_shards_words.specs.Program.{program}
use Rattle.cm_shards_words.specs.declared.jobs.AskJob.{AskJob}
use Rattle.cm_tool_stops.specs.DoesLaws.{unbegun}
use Rattle.cm_tool_stops.specs.Ends.{Says}
use Rattle.cm_tool_stops.specs.Messages.{out_of_memory}

pub unasked : (job : AskJob) (disk : DiskState) (out err_old err_new : SinkState) → Says err_old err_new (out_of_memory program) → IsSent err_old err_new → AsksShards job (outside disk out err_old) (outside disk out err_new) 6
unasked job disk out err_old err_new says sent = record {
  does = unbegun (frame_of job) disk out err_old err_new refl sent (λ files known. record {
    notes = [];
    text = out_of_memory program;
    says = says;
    read = λ four. absurd (omega (arith, four));
    write = λ five. absurd (omega (arith, five));
    memory = λ _. ((refl, refl), refl);
  }) (Err ask_stop.Memory, record { notes = []; status_is = refl; says = says });
  truth = λ _ either. absurd (omega (arith, either));
}
