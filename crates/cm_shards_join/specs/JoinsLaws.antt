-- Joins that do nothing, and those whose manifest is none of the files that they read.
use Rattle.std.proofs.Common.{◌≡◌, ℕ, Err, inl, inr, refl, arith}
use Rattle.cm_io.specs.States.{DiskState, IsSent, Outside, SinkState, outside}
use Rattle.cm_shards_join.specs.Inputs.{ReplacesInput}
use Rattle.cm_shards_join.specs.Joins.{Joins, JoinsFunctions, frame_of}
use Rattle.cm_shards_join.specs.declared.stop.JoinStop.TheVariants.{Memory}
use Rattle.cm_shards_words.specs.Messages.{would_overwrite}
use Rattle.cm_shards_words.specs.Program.{program}
use Rattle.cm_shards_words.specs.declared.jobs.JoinJob.{JoinJob}
use Rattle.cm_tool_stops.specs.DoesLaws.{unbegun}
use Rattle.cm_tool_stops.specs.Ends.{Says}
use Rattle.cm_tool_stops.specs.Messages.{out_of_memory}

-- memory ran out before anything was done
pub unjoined : (job : JoinJob) (disk : DiskState) (out err_old err_new : SinkState) → Says err_old err_new (out_of_memory program) → IsSent err_old err_new → Joins job (outside disk out err_old) (outside disk out err_new) 6
unjoined job disk out err_old err_new says sent = record {
  refused = λ _. record { disk = refl; out = refl; said = inr (refl, says); err_sent = λ _. sent };
  functions = λ _. record {
    does = unbegun (frame_of job) disk out err_old err_new refl sent (record { read = λ four. absurd (omega (arith, four)); write = λ five. absurd (omega (arith, five)); memory = λ _. inl refl }) (Err Memory, record { status_is = refl; says = says });
    saved = λ zero. absurd (omega (arith, zero));
  };
}

-- a file that is read would be overwritten
pub overwriting : (job : JoinJob) (disk : DiskState) (out err_old err_new : SinkState) (status : ℕ) → ReplacesInput job → status ≡ 5 → Says err_old err_new (would_overwrite job.manifest) → IsSent err_old err_new
    → Joins job (outside disk out err_old) (outside disk out err_new) status
overwriting job disk out err_old err_new status replaces is says sent = record {
  refused = λ _. record { disk = refl; out = refl; said = inl (is, says); err_sent = λ _. sent };
  functions = λ none. absurd (none replaces);
}

-- none would be
pub other_manifest : (job : JoinJob) (old new : Outside) (status : ℕ) → (ReplacesInput job → ⊥) → JoinsFunctions job old new status → Joins job old new status
other_manifest job old new status none functions = record { refused = λ replaces. absurd (none replaces); functions = λ _. functions }
