-- From a build over a pass to what the driver of builds asks of a builder.
use Rattle.std.proofs.Common.{◌≡◌, ◌∙◌, Ok, Err, ap, arith}
use Rattle.cm_func.specs.declared.function.Func.{Func}
use Rattle.cm_io.specs.Passes.{Told}
use Rattle.cm_io.specs.declared.key_pass.KeyFault.TheVariants as key_fault
use Rattle.cm_tool_builds.specs.Faults.{FailsFunc, HasNone}
use Rattle.cm_tool_builds.specs.FuncOf.{IsFuncOf}
use Rattle.cm_tool_builds.specs.Results.{FailureReport}
use Rattle.cm_tool_builds.specs.declared.fault.FuncFault.{FuncFault}
use Rattle.cm_tool_builds.specs.declared.fault.FuncFault.TheVariants.{Memory, NoKeys, Cored, Overfull, Key, Changed, Spill, SpillDamaged}
use Rattle.cm_tool_building.specs.Makes.{RefusesBy}
use Rattle.cm_tool_cells.specs.RecipeLaws.{over_fault, over_none, over_some}
use Rattle.cm_tool_cells.specs.Recipes.{verdict_on}
use Rattle.cm_tool.specs.Building.{fault_from, meaning_of, report_bytes, verdict_by, verdict_of}
use Rattle.cm_tool.specs.Jobs.{seeds_tried}
use Rattle.cm_words.specs.declared.jobs.BuildJob.{BuildJob}

-- a function of known keys
pub made_verdict : (job : BuildJob) (told : Told) (f : Func) → IsFuncOf job.algorithm job.b told job.c (seeds_tried job) f → verdict_on (verdict_of job) told.keys told.fault ≡ Ok (record { func = f })
made_verdict job told f made = over_some (verdict_of job) told.keys told.fault made.no_fault (omega (arith, made.many.0)) ∙ ap verdict_by made.result_is

-- a report on known keys
none_verdict : (job : BuildJob) (told : Told) (shown : FailureReport) → HasNone job.algorithm job.b told job.c (seeds_tried job) shown → verdict_on (verdict_of job) told.keys told.fault ≡ verdict_by (Err shown)
none_verdict job told shown none = over_some (verdict_of job) told.keys told.fault none.no_fault none.some ∙ ap verdict_by none.result_is

-- and any refusal of them
pub refuses_from : (job : BuildJob) (told : Told) (fault : FuncFault) → FailsFunc job.algorithm job.b told job.c (seeds_tried job) fault → RefusesBy report_bytes (meaning_of job) told (fault_from fault)
refuses_from job told Memory fails = tt
refuses_from job told NoKeys fails = over_none (verdict_of job) told.keys told.fault fails.0 fails.1
refuses_from job told (Cored made) fails = (none_verdict job told _ fails, fails.none)
refuses_from job told (Overfull seed bucket count equal) fails = (none_verdict job told _ fails, fails.none)
refuses_from job told (Key key_fault.Read) fails = tt
refuses_from job told (Key (key_fault.TooLong line)) fails = over_fault (verdict_of job) told.keys told.fault (key_fault.TooLong line) fails
refuses_from job told (Key key_fault.TooMany) fails = over_fault (verdict_of job) told.keys told.fault key_fault.TooMany fails
refuses_from job told (Changed first again) fails = absurd fails
refuses_from job told Spill fails = tt
refuses_from job told (SpillDamaged offset expected found) fails = absurd fails
