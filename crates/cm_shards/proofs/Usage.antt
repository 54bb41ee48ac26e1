-- Arguments that are no job, or for which memory ran out.
use Rattle.std.proofs.Common.{◌≡◌, ◌⊎◌, ◌∙◌, ℕ, [], Ok, Err, ap, inl, inr, subst, sym}
use Rattle.cm_io.specs.States.{DiskState, IsSent, Outside, SinkState, outside}
use Rattle.cm_shards.proofs.Undone.{unasked}
use Rattle.cm_shards.specs.Runs.{Runs}
use Rattle.cm_shards_join.specs.JoinsLaws.{unjoined}
use Rattle.cm_shards_split.specs.SplitsLaws.{unsplit}
use Rattle.cm_shards_words.specs.Program.{program}
use Rattle.cm_shards_words.specs.declared.jobs.ShardsJob.{ShardsJob}
use Rattle.cm_shards_words.specs.declared.jobs.ShardsJob.TheVariants.{Ask, Join, Split}
use Rattle.cm_tool_stops.specs.Ends.{Says, usage_status_of}
use Rattle.cm_tool_stops.specs.Messages.{out_of_memory, usage_message}
use Rattle.cm_tool_stops.specs.RefusingLaws.{no_memory, refuses}
use Rattle.cm_words_arguments.specs.Options.{Read}
use Rattle.cm_words_arguments.specs.declared.fault.UsageFault.{UsageFault}
use Rattle.cm_words_arguments.specs.declared.fault.UsageFault.TheVariants.{Memory}

-- a job for which memory ran out before it began
undone : (job : ShardsJob) (disk : DiskState) (out err_old err_new : SinkState) → Says err_old err_new (out_of_memory program) → IsSent err_old err_new → Runs (Ok job) (outside disk out err_old) (outside disk out err_new) 6
undone (Split job) disk out err_old err_new says sent = unsplit job disk out err_old err_new says sent
undone (Join job) disk out err_old err_new says sent = unjoined job disk out err_old err_new says sent
undone (Ask job) disk out err_old err_new says sent = unasked job disk out err_old err_new says sent

-- what the report of a fault of the arguments does
pub refused : (asked : Read ShardsJob) (fault : UsageFault) (disk : DiskState) (out err_old err_new : SinkState) (status : ℕ) → (fault ≡ Memory) ⊎ (let r : Read ShardsJob = Err fault in r ≡ asked) → status ≡ usage_status_of fault
    → Says err_old err_new (usage_message program [] fault) → IsSent err_old err_new → Runs asked (outside disk out err_old) (outside disk out err_new) status
refused (Err bad) fault disk out err_old err_new status cause is says sent = refuses {A = ShardsJob} program [] bad fault disk out err_old err_new status cause is says sent
refused (Ok job) fault disk out err_old err_new status (inl memory) is says sent =
    let six : status ≡ 6 = is ∙ ap usage_status_of memory in
    rw six (undone job disk out err_old err_new (no_memory program [] err_old err_new fault memory says) sent)
refused (Ok job) fault disk out err_old err_new status (inr same) is says sent = absurd (cc)

-- what a job does is what the arguments ask for
pub asked_for : {asked : Read ShardsJob} {read job : ShardsJob} (old new : Outside) (status : ℕ) → (let r : Read ShardsJob = Ok read in r ≡ asked) → read ≡ job → Runs (Ok job) old new status → Runs asked old new status
asked_for old new status is same runs = subst (λ a. Runs a old new status) is (subst (λ job. Runs (Ok job) old new status) (sym same) runs)
