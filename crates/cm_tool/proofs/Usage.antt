-- Arguments that are no job, or for which memory ran out.
use Rattle.std.proofs.Common.{◌≡◌, ◌⊎◌, ◌∙◌, ℕ, Ok, Err, ap, inl, inr, refl, arith}
use Rattle.cm_algo_names.specs.declared.algorithm.Algorithm.TheVariants.{Chm}
use Rattle.cm_io.specs.States.{DiskState, IsSent, SinkState, outside}
use Rattle.cm_tool.specs.Asking.{asking_of}
use Rattle.cm_tool.specs.Building.{building_of}
use Rattle.cm_tool.specs.Runs.{Runs}
use Rattle.cm_tool.specs.Said.{cmph, hint}
use Rattle.cm_tool.specs.TestEnds.{test_frame}
use Rattle.cm_tool.specs.Tested.{test_outcome}
use Rattle.cm_tool.specs.Texts.{help_text, version_text}
use Rattle.cm_tool.specs.Upgrading.{upgrade_frame}
use Rattle.cm_tool.proofs.Printing.{unprinted}
use Rattle.cm_tool.proofs.Tests.{got_nothing}
use Rattle.cm_tool_asking.specs.MemoryLaws.{unasked}
use Rattle.cm_tool_building.specs.MemoryLaws.{unbuilt}
use Rattle.cm_tool_stops.specs.DoesLaws.{unbegun}
use Rattle.cm_tool_stops.specs.Ends.{Says, usage_status_of}
use Rattle.cm_tool_stops.specs.Messages.{out_of_memory, usage_message}
use Rattle.cm_tool_stops.specs.RefusingLaws.{no_memory, refuses}
use Rattle.cm_tool_stops.specs.declared.stop.Stop.TheVariants as stop
use Rattle.cm_tool_stops.specs.declared.stop.UpgradeStop.TheVariants as upgrade_stop
use Rattle.cm_words.specs.declared.jobs.Job.{Job}
use Rattle.cm_words.specs.declared.jobs.Job.TheVariants.{Help, Version, Build, Query, Test, Upgrade}
use Rattle.cm_words_arguments.specs.Options.{Read}
use Rattle.cm_words_arguments.specs.declared.fault.UsageFault.{UsageFault}
use Rattle.cm_words_arguments.specs.declared.fault.UsageFault.TheVariants.{Memory}

-- memory ran out before a job began
undone : (job : Job) (disk : DiskState) (out err_old err_new : SinkState) → Says err_old err_new (out_of_memory cmph) → IsSent err_old err_new → Runs (Ok job) (outside disk out err_old) (outside disk out err_new) 6
undone Help disk out err_old err_new says sent = unprinted help_text disk out err_old err_new says sent
undone Version disk out err_old err_new says sent = unprinted version_text disk out err_old err_new says sent
undone (Build job) disk out err_old err_new says sent = record {
  builds = unbuilt (building_of job) disk out err_old err_new says sent;
  numbers = λ zero. absurd (omega (arith, zero));
}
undone (Query job) disk out err_old err_new says sent = unasked (asking_of job) disk out err_old err_new says sent
undone (Test job) disk out err_old err_new says sent = record {
  does = unbegun (test_frame job) disk out err_old err_new refl sent
      (record { part = λ files is. got_nothing (test_outcome job files).out out.written out.written refl; unfinished = λ five. absurd (omega (arith, five)) })
      (Err stop.Memory, record { form = (Chm, tt); out_cause = refl; status_is = refl; says = says });
  spilled = λ zero. absurd (omega (arith, zero));
}
undone (Upgrade job) disk out err_old err_new says sent =
    unbegun (upgrade_frame job) disk out err_old err_new refl sent (record { write = λ five. absurd (omega (arith, five)); memory = λ _. inl refl }) (Err upgrade_stop.Memory, refl, says)

-- what the report of a fault of the arguments does
pub refused : (asked : Read Job) (fault : UsageFault) (disk : DiskState) (out err_old err_new : SinkState) (status : ℕ) → (fault ≡ Memory) ⊎ (let r : Read Job = Err fault in r ≡ asked) → status ≡ usage_status_of fault
    → Says err_old err_new (usage_message cmph hint fault) → IsSent err_old err_new → Runs asked (outside disk out err_old) (outside disk out err_new) status
refused (Err bad) fault disk out err_old err_new status cause is says sent = refuses {A = Job} cmph hint bad fault disk out err_old err_new status cause is says sent
refused (Ok job) fault disk out err_old err_new status (inl memory) is says sent =
    let six : status ≡ 6 = is ∙ ap usage_status_of memory in
    rw six (undone job disk out err_old err_new (no_memory cmph hint err_old err_new fault memory says) sent)
refused (Ok job) fault disk out err_old err_new status (inr same) is says sent = absurd (cc)
