-- From a build with status 0 to the store that its file spells.
use Rattle.std.proofs.Common.{◌≡◌, ℕ, List, Some, subst, sym}
use Rattle.std.specs.FinMap as map
use Rattle.cm_store_dump.specs.Building.{IsStoreOf, building_of}
use Rattle.cm_store_dump.specs.Running.{HasSavedAll}
use Rattle.cm_store_dump.specs.declared.files.StoreFile.{StoreFile}
use Rattle.cm_store_file.specs.StoreFiles.{store_bytes}
use Rattle.cm_store_words.specs.declared.jobs.StoreBuild.{StoreBuild}
use Rattle.cm_io.specs.Files.{Files, file_at}
use Rattle.cm_io.specs.States.{Outside}
use Rattle.cm_keys.specs.Lines.{keys_in}
use Rattle.cm_tool_building.specs.Builds.{Builds}
use Rattle.cm_tool_building.specs.SavedLaws.{has_saved}

-- what is known of the file of a store over the lines of a file
abbrev Law : StoreBuild → Files → Type 0
Law job files = (bytes : List ℕ) (file : StoreFile) → file_at files job.lines ≡ Some bytes → IsStoreOf job (keys_in job.first job.end bytes) file → HasSavedAll job files (Some (map.insert files job.store (store_bytes file.store)))

pub saved_all : (job : StoreBuild) (old new : Outside) (status : ℕ) → Builds (building_of job) old new status → status ≡ 0 → (files : Files) → old.disk.files ≡ Some files → Law job files → HasSavedAll job files new.disk.files
saved_all job old new status builds zero files is law =
    let saved = has_saved (building_of job) old new status builds zero files is in
    let known = saved.known in
    subst (HasSavedAll job files) (sym saved.files_are) (law known.bytes saved.made known.there known.makes)
