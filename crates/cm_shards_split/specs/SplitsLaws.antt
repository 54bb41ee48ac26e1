-- Splits that do nothing, and those of other keys files than those that are made.
use Rattle.std.proofs.Common.{◌≡◌, ℕ, Err, inl, inr, refl}
use Rattle.cm_io.specs.States.{DiskState, IsSent, Outside, SinkState, outside}
use Rattle.cm_shards_split.specs.Splits.{MakesKeys, Splits, frame_of}
use Rattle.cm_shards_split.specs.declared.stop.SplitStop.TheVariants.{Memory}
use Rattle.cm_shards_words.specs.Messages.{would_overwrite}
use Rattle.cm_shards_words.specs.Program.{program}
use Rattle.cm_shards_words.specs.declared.jobs.SplitJob.{SplitJob}
use Rattle.cm_tool_stops.specs.Does.{Does}
use Rattle.cm_tool_stops.specs.DoesLaws.{unbegun}
use Rattle.cm_tool_stops.specs.Ends.{Says}
use Rattle.cm_tool_stops.specs.Messages.{out_of_memory}

-- memory ran out before anything was done
pub unsplit : (job : SplitJob) (disk : DiskState) (out err_old err_new : SinkState) → Says err_old err_new (out_of_memory program) → IsSent err_old err_new → Splits job (outside disk out err_old) (outside disk out err_new) 6
unsplit job disk out err_old err_new says sent = record {
  refused = λ _. record { disk = refl; out = refl; said = inr (refl, says); err_sent = λ _. sent };
  lines = λ _. unbegun (frame_of job) disk out err_old err_new refl sent (λ files known. inl refl) (Err Memory, refl, says);
}

-- the keys file would be overwritten
pub overwriting : (job : SplitJob) (disk : DiskState) (out err_old err_new : SinkState) (status : ℕ) → MakesKeys job → status ≡ 5 → Says err_old err_new (would_overwrite job.keys) → IsSent err_old err_new
    → Splits job (outside disk out err_old) (outside disk out err_new) status
overwriting job disk out err_old err_new status makes is says sent = record {
  refused = λ _. record { disk = refl; out = refl; said = inl (is, says); err_sent = λ _. sent };
  lines = λ none. absurd (none makes);
}

-- it is another than those that are made
pub other_keys : (job : SplitJob) (old new : Outside) (status : ℕ) → (MakesKeys job → ⊥) → Does (frame_of job) old new status → Splits job old new status
other_keys job old new status none lines = record { refused = λ makes. absurd (none makes); lines = λ _. lines }
