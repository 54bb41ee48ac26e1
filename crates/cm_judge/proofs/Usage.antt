-- Arguments that are no job, or for which memory ran out.
use Rattle.std.proofs.Common.{◌≡◌, ◌⊎◌, ◌∙◌, ℕ, [], Ok, Err, ap, inl, inr, refl}
use Rattle.cm_io.specs.States.{DiskState, IsSent, SinkState, outside}
use Rattle.cm_judge.proofs.Promises.{Left, unjudged}
use Rattle.cm_judge.specs.Runs.{Runs}
use Rattle.cm_judge.specs.Texts.{program}
use Rattle.cm_judge.specs.declared.stop.JudgeStop.TheVariants.{Report}
use Rattle.cm_judge_words.specs.declared.job.JudgeJob.{JudgeJob}
use Rattle.cm_tool_stops.specs.Ends.{Says, usage_status_of}
use Rattle.cm_tool_stops.specs.Messages.{usage_message}
use Rattle.cm_tool_stops.specs.RefusingLaws.{no_memory, refuses}
use Rattle.cm_witness_report.specs.declared.report.ReportFault.TheVariants as report_fault
use Rattle.cm_words_arguments.specs.Options.{Read}
use Rattle.cm_words_arguments.specs.declared.fault.UsageFault.{UsageFault}
use Rattle.cm_words_arguments.specs.declared.fault.UsageFault.TheVariants.{Memory}

-- a job that stopped before anything was done leaves the disk as it was
untouched : (job : JudgeJob) (disk : DiskState) → Left job disk disk (Err (Report report_fault.Memory))
untouched job disk = record { files = refl; spilled = refl; write_faults = refl; cause = refl; ends = λ files known. tt; numbers = tt }

-- what the report of a fault of the arguments does
pub refused : (asked : Read JudgeJob) (fault : UsageFault) (disk : DiskState) (out err_old err_new : SinkState) (status : ℕ) → (fault ≡ Memory) ⊎ (let r : Read JudgeJob = Err fault in r ≡ asked) → status ≡ usage_status_of fault
    → Says err_old err_new (usage_message program [] fault) → IsSent err_old err_new → Runs asked (outside disk out err_old) (outside disk out err_new) status
refused (Err bad) fault disk out err_old err_new status cause is says sent = refuses {A = JudgeJob} program [] bad fault disk out err_old err_new status cause is says sent
refused (Ok job) fault disk out err_old err_new status (inl memory) is says sent =
    unjudged job disk disk out err_old err_new (Report report_fault.Memory) status (untouched job disk) (is ∙ ap usage_status_of memory) (no_memory program [] err_old err_new fault memory says) sent
refused (Ok job) fault disk out err_old err_new status (inr same) is says sent = absurd (cc)
