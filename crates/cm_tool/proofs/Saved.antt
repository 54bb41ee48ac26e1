-- From a build with status 0 to the numbers that its file has.
use Rattle.std.proofs.Common.{◌≡◌, ℕ, List, Option, Some, subst, sym}
use Rattle.std.specs.FinMap as map
use Rattle.cm_dump.specs.Dumps.{dump_of}
use Rattle.cm_func.specs.Functions.{IsFunction}
use Rattle.cm_func.specs.declared.function.Func.{Func}
use Rattle.cm_io.specs.Files.{Files, file_at}
use Rattle.cm_io.specs.States.{Outside}
use Rattle.cm_keys.specs.Lines.{keys_in}
use Rattle.cm_tool.specs.Building.{building_of}
use Rattle.cm_tool.specs.Jobs.{seeds_tried}
use Rattle.cm_tool.specs.Numbers.{SavedNumbers}
use Rattle.cm_tool_building.specs.Builds.{Builds}
use Rattle.cm_tool_building.specs.SavedLaws.{has_saved}
use Rattle.cm_tool_builds.specs.FuncOf.{IsFuncOf}
use Rattle.cm_words.specs.Limits.{IsBuild}
use Rattle.cm_words.specs.declared.jobs.BuildJob.{BuildJob}

-- what is known of the file of a function of the keys of a file
abbrev Law : BuildJob → Files → Type 0
Law job files = (bytes : List ℕ) (f : Func) → IsBuild job → file_at files job.keys ≡ Some bytes → IsFuncOf job.algorithm job.b (keys_in job.first job.end bytes) job.c (seeds_tried job) f → IsFunction f → SavedNumbers files (Some (map.insert files job.function (dump_of f))) job

pub saved_all : (job : BuildJob) (old new : Outside) (status : ℕ) → Builds (building_of job) old new status → status ≡ 0 → (files : Files) → old.disk.files ≡ Some files → Law job files → IsBuild job → SavedNumbers files new.disk.files job
saved_all job old new status builds zero files is law build =
    let saved = has_saved (building_of job) old new status builds zero files is in
    let known = saved.known in
    subst (λ (after : Option Files). SavedNumbers files after job) (sym saved.files_are) (law known.bytes saved.made.func build known.there known.makes.made known.makes.valid)
