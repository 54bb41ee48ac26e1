-- What a build is about: its seeds, its plan, and what they make of keys.
use Rattle.std.specs.Prelude.{ℕ, List, Result}
use Rattle.cm_func.specs.declared.function.Func.{Func}
use Rattle.cm_tool_builds.specs.Results.{FailureReport, result_by}
use Rattle.cm_tool_builds.specs.declared.plan.Plan.{Plan}
use Rattle.cm_tool_cells.specs.Seeds.{seeds_of}
use Rattle.cm_words.specs.declared.jobs.BuildJob.{BuildJob}

-- the seeds of a job
abbrev pub seeds_tried : BuildJob → List ℕ
seeds_tried job = seeds_of job.seed job.count

-- the plan of a job
abbrev pub plan_for : BuildJob → Plan
plan_for job = record { algorithm = job.algorithm; c = job.c; b = job.b; buffer = job.buffer }

-- the function of keys by a job, or the report on why they have none
abbrev pub result_of : BuildJob → List (ℕ × List ℕ) → Result Func FailureReport
result_of job keys = result_by job.algorithm job.b keys job.c (seeds_tried job)
