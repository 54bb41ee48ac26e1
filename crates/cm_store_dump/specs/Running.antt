-- What a build leaves.
use Rattle.std.specs.Prelude.{◌≡◌, ℕ, List, Option, Some, Ok}
use Rattle.std.specs.Option.{ForSome}
use Rattle.cm_io.specs.Files.{Files, file_at}
use Rattle.cm_io.specs.States.{Outside}
use Rattle.cm_keys.specs.Lines.{keys_in}
use Rattle.cm_store.specs.Stores.{Store, look}
use Rattle.cm_store_dump.specs.Building.{building_of}
use Rattle.cm_store_file.specs.StoreFiles.{store_in}
use Rattle.cm_store_records.specs.Records.{records_of_lines, value_in}
use Rattle.cm_store_words.specs.declared.jobs.StoreBuild.{StoreBuild}
use Rattle.cm_tool_building.specs.Builds.{Builds}

-- The file of lines is there, and the bytes of the store file are those of a store that has the value of each key of its lines, and of no
-- other key.
pub record HasSavedAll (job : StoreBuild) (files : Files) (new : Option Files) : Type 0 where
  pub bytes : List ℕ
  pub there : file_at files job.lines ≡ Some bytes
  pub after : Files
  pub known : new ≡ Some after
  pub saved : List ℕ
  pub saved_there : file_at after job.store ≡ Some saved
  pub store : Store
  pub spells : store_in saved ≡ Ok store
  pub all : (key : List ℕ) → look store key ≡ value_in (records_of_lines (keys_in job.first job.end bytes).keys) key

-- A build does what the driver promises, and after one with status 0 the store that the file spells answers as the lines do.
pub record RunsBuild (job : StoreBuild) (old new : Outside) (result : ℕ) : Type 0 where
  pub builds : Builds (building_of job) old new result
  pub answers : result ≡ 0 → ForSome old.disk.files (λ files. HasSavedAll job files new.disk.files)
