-- Arguments that are no job, or for which memory ran out.
use Rattle.std.proofs.Common.{◌≡◌, ◌⊎◌, ◌∙◌, ℕ, [], Ok, Err, ap, inl, inr, arith}
use Rattle.cm_filter_dump.specs.Asked.{asking_of}
use Rattle.cm_filter_dump.specs.Building.{building_of}
use Rattle.cm_filter_dump.specs.Program.{program}
use Rattle.cm_filter_dump.specs.Runs.{Runs}
use Rattle.cm_filter_words.specs.declared.jobs.FilterJob.{FilterJob}
use Rattle.cm_filter_words.specs.declared.jobs.FilterJob.TheVariants.{Build, Test}
use Rattle.cm_io.specs.States.{DiskState, IsSent, SinkState, outside}
use Rattle.cm_tool_asking.specs.MemoryLaws.{unasked}
use Rattle.cm_tool_building.specs.MemoryLaws.{unbuilt}
use Rattle.cm_tool_stops.specs.Ends.{Says, usage_status_of}
use Rattle.cm_tool_stops.specs.Messages.{usage_message}
use Rattle.cm_tool_stops.specs.RefusingLaws.{no_memory, refuses}
use Rattle.cm_words_arguments.specs.Options.{Read}
use Rattle.cm_words_arguments.specs.declared.fault.UsageFault.{UsageFault}
use Rattle.cm_words_arguments.specs.declared.fault.UsageFault.TheVariants.{Memory}

-- what the report of a fault of the arguments does
pub refused : (asked : Read FilterJob) (fault : UsageFault) (disk : DiskState) (out err_old err_new : SinkState) (status : ℕ) → (fault ≡ Memory) ⊎ (let r : Read FilterJob = Err fault in r ≡ asked) → status ≡ usage_status_of fault
    → Says err_old err_new (usage_message program [] fault) → IsSent err_old err_new → Runs asked (outside disk out err_old) (outside disk out err_new) status
refused (Err bad) fault disk out err_old err_new status cause is says sent = refuses {A = FilterJob} program [] bad fault disk out err_old err_new status cause is says sent
refused (Ok (Build job)) fault disk out err_old err_new status (inl memory) is says sent =
    let six : status ≡ 6 = is ∙ ap usage_status_of memory in
    rw six (record {
      builds = unbuilt (building_of job) disk out err_old err_new (no_memory program [] err_old err_new fault memory says) sent;
      holds = λ zero. absurd (omega (arith, zero));
    })
refused (Ok (Build job)) fault disk out err_old err_new status (inr same) is says sent = absurd (cc)
refused (Ok (Test job)) fault disk out err_old err_new status (inl memory) is says sent =
    let six : status ≡ 6 = is ∙ ap usage_status_of memory in
    rw six (unasked (asking_of job) disk out err_old err_new (no_memory program [] err_old err_new fault memory says) sent)
refused (Ok (Test job)) fault disk out err_old err_new status (inr same) is says sent = absurd (cc)
