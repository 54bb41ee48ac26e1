-- What a build of `cmph` makes of keys, for the driver of builds.
use Rattle.std.specs.Prelude.{ℕ, List, Option, Result, Ok, Err}
use Rattle.cm_dump.specs.Dumps.{dump_of}
use Rattle.cm_func.specs.Functions.{IsFunction}
use Rattle.cm_witness_gather.specs.declared.failure.SeedFailure.TheVariants.{NoSplit}
use Rattle.cm_func.specs.declared.function.Func.{Func}
use Rattle.cm_io.specs.Passes.{Told}
use Rattle.cm_tool_builds.specs.Faults.{UsesSpill, seed_failure_of, shown_core, shown_overfull}
use Rattle.cm_tool_builds.specs.FuncOf.{IsFuncOf}
use Rattle.cm_tool_builds.specs.Results.{FailureReport}
use Rattle.cm_tool_builds.specs.Seeds.{NoneWorks}
use Rattle.cm_tool_builds.specs.Spills.{HasSpilled}
use Rattle.cm_tool_builds.specs.declared.fault.FuncFault.{FuncFault}
use Rattle.cm_tool_builds.specs.declared.fault.FuncFault.TheVariants as func_fault
use Rattle.cm_tool_building.specs.Building.{Building}
use Rattle.cm_tool_building.specs.Leaves as leaves
use Rattle.cm_tool_building.specs.Meanings.{Meaning, Refusal}
use Rattle.cm_tool_building.specs.declared.fault.Fault.{Fault}
use Rattle.cm_tool_building.specs.declared.fault.Fault.TheVariants.{Memory, NoKeys, Refused, Key, Changed, Spill, SpillDamaged}
use Rattle.cm_tool_cells.specs.Recipes.{verdict_on}
use Rattle.cm_tool_files.specs.declared.storing.FuncFile.{FuncFile}
use Rattle.cm_tool.specs.Summaries.{summary_of}
use Rattle.cm_tool_stops.specs.declared.stop.Stop.{Stop}
use Rattle.cm_tool_stops.specs.declared.stop.Stop.TheVariants as stops
use Rattle.cm_tool.specs.Jobs.{result_of, seeds_tried}
use Rattle.cm_tool.specs.Said.{built_message, naming}
use Rattle.cm_tool.specs.Stops.{HasStopForm}
use Rattle.cm_tool.specs.declared.reports.FuncReport.{FuncReport}
use Rattle.cm_tool.specs.declared.reports.FuncReport.TheVariants.{Core, Overfull}
use Rattle.cm_words.specs.Limits.{IsBuild}
use Rattle.cm_words.specs.declared.jobs.BuildJob.{BuildJob}

-- what a report shows
abbrev pub shown_by : FuncReport → FailureReport
shown_by (Core made) = shown_core made
shown_by (Overfull seed bucket count equal) = shown_overfull seed bucket count equal.items

abbrev pub report_bytes : FuncReport → List ℕ
report_bytes report = (shown_by report).report

-- a fault of a build, for the driver
abbrev pub fault_from : FuncFault → Fault FuncReport
fault_from func_fault.Memory = Memory
fault_from func_fault.NoKeys = NoKeys
fault_from (func_fault.Cored made) = Refused (seed_failure_of made.place) (Core made)
fault_from (func_fault.Overfull seed bucket count equal) = Refused NoSplit (Overfull seed bucket count equal)
fault_from (func_fault.Key fault) = Key fault
fault_from (func_fault.Changed first again) = Changed first again
fault_from func_fault.Spill = Spill
fault_from (func_fault.SpillDamaged offset expected found) = SpillDamaged offset expected found

-- why a fault stops a job, and what out got
abbrev pub StopsFor : FuncFault → Option (List ℕ) → Option (List ℕ) → Stop → Type 0
StopsFor fault old new stop = leaves.StopsFor report_bytes (fault_from fault) old new stop

-- a function, or the report on keys that have none
abbrev pub verdict_by : Result Func FailureReport → Result FuncFile Refusal
verdict_by (Ok f) = Ok (record { func = f })
verdict_by (Err shown) = Err (record { stop = stops.Refused shown.failure; report = shown.report })

-- what a job makes of keys that end with no fault
abbrev pub verdict_of : BuildJob → List (ℕ × List ℕ) → Result FuncFile Refusal
verdict_of job keys = verdict_by (result_of job keys)

-- what is known of the function of keys, with the last spill before and after
pub record IsFileOf (job : BuildJob) (told : Told) (file : FuncFile) (old new : Option (List ℕ)) : Type 0 where
  pub made : IsFuncOf job.algorithm job.b told job.c (seeds_tried job) file.func
  pub valid : IsFunction file.func
  pub spilled : HasSpilled file.func told.keys old new

abbrev pub meaning_of : BuildJob → Meaning FuncFile
meaning_of job = record {
  ready = IsBuild job;
  verdict = λ told. verdict_on (verdict_of job) told.keys told.fault;
  makes = IsFileOf job;
  reports = λ told. NoneWorks job.algorithm job.b told.keys job.c (seeds_tried job);
  may_stop = HasStopForm job.algorithm;
  uses_spill = UsesSpill job.algorithm;
  said = λ file. built_message job (summary_of file.func);
}

-- the build of a job
abbrev pub building_of : BuildJob → Building FuncFile
building_of job = record {
  named = naming job.keys job.function;
  dir = job.dir;
  first = job.first;
  end = job.end;
  meaning = meaning_of job;
  bytes = λ file. dump_of file.func;
}
