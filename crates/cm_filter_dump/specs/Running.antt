-- What a build leaves.
use Rattle.std.specs.Prelude.{◌≡◌, ℕ, List, Option, Some, Ok}
use Rattle.std.specs.Option.{ForSome}
use Rattle.cm_filter.specs.Filters.{Filter}
use Rattle.cm_filter.specs.Members.{AllHold}
use Rattle.cm_filter_dump.specs.Building.{building_of}
use Rattle.cm_filter_file.specs.FilterFiles.{filter_in}
use Rattle.cm_filter_words.specs.declared.jobs.FilterBuild.{FilterBuild}
use Rattle.cm_io.specs.Files.{Files, file_at}
use Rattle.cm_io.specs.States.{Outside}
use Rattle.cm_keys.specs.Lines.{keys_in}
use Rattle.cm_tool_building.specs.Builds.{Builds}

-- The keys file is there, and the bytes of the filter file are those of a filter in which each of its keys holds.
pub record HasSavedAll (job : FilterBuild) (files : Files) (new : Option Files) : Type 0 where
  pub bytes : List ℕ
  pub there : file_at files job.keys ≡ Some bytes
  pub after : Files
  pub known : new ≡ Some after
  pub saved : List ℕ
  pub saved_there : file_at after job.filter ≡ Some saved
  pub filter : Filter
  pub spells : filter_in saved ≡ Ok filter
  pub all : AllHold filter (keys_in job.first job.end bytes).keys

-- A build does what the driver promises, and after one with status 0 each key of the set holds in the filter that the file spells.
pub record RunsBuild (job : FilterBuild) (old new : Outside) (result : ℕ) : Type 0 where
  pub builds : Builds (building_of job) old new result
  pub holds : result ≡ 0 → ForSome old.disk.files (λ files. HasSavedAll job files new.disk.files)
