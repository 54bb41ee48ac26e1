-- From a build with status 0 to the filter that its file spells.
use Rattle.std.proofs.Common.{◌≡◌, ℕ, List, Some, subst, sym}
use Rattle.std.specs.FinMap as map
use Rattle.cm_filter.specs.Filters.{filter_rule}
use Rattle.cm_filter_dump.specs.Building.{building_of, make_filter, recipe_of}
use Rattle.cm_filter_dump.specs.Running.{HasSavedAll}
use Rattle.cm_filter_dump.specs.declared.files.FilterFile.{FilterFile}
use Rattle.cm_filter_file.specs.FilterFiles.{IsFilter, filter_bytes}
use Rattle.cm_filter_words.specs.Limits.{IsFilterBuild}
use Rattle.cm_filter_words.specs.declared.jobs.FilterBuild.{FilterBuild}
use Rattle.cm_io.specs.Files.{Files, file_at}
use Rattle.cm_io.specs.States.{Outside}
use Rattle.cm_keys.specs.Lines.{keys_in}
use Rattle.cm_tool_building.specs.Builds.{Builds}
use Rattle.cm_tool_building.specs.SavedLaws.{has_saved}
use Rattle.cm_tool_cells.specs.Recipes.{IsMadeOf}

-- what is known of the file of a filter over the keys of a file
abbrev Law : FilterBuild → Files → Type 0
Law job files = (bytes : List ℕ) (file : FilterFile) → IsFilterBuild job → file_at files job.keys ≡ Some bytes → IsMadeOf (filter_rule job.w) (recipe_of job) (make_filter job) (keys_in job.first job.end bytes) file → IsFilter file.filter
    → HasSavedAll job files (Some (map.insert files job.filter (filter_bytes file.filter)))

pub saved_all : (job : FilterBuild) (old new : Outside) (status : ℕ) → Builds (building_of job) old new status → status ≡ 0 → (files : Files) → old.disk.files ≡ Some files → Law job files → IsFilterBuild job → HasSavedAll job files new.disk.files
saved_all job old new status builds zero files is law build =
    let saved = has_saved (building_of job) old new status builds zero files is in
    let known = saved.known in
    subst (HasSavedAll job files) (sym saved.files_are) (law known.bytes saved.made build known.there known.makes.0 known.makes.1)
