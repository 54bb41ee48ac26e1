-- What a build saves: a function of the keys, with the answers that its algorithm is for.
use Rattle.std.specs.Prelude.{◌≡◌, ℕ, List, length, Option, Some, Ok}
use Rattle.std.specs.Option.{ForSome}
use Rattle.cm_algo_names.specs.declared.algorithm.Algorithm.{Algorithm}
use Rattle.cm_algo_names.specs.declared.algorithm.Algorithm.TheVariants.{Chm, Bdz, BdzPh, Brz}
use Rattle.cm_bdz.specs.Functions.{bdz_answer, bdz_ph_answer}
use Rattle.cm_bdz.specs.Numbering.{AnswersApart}
use Rattle.cm_brz_func.specs.Functions.{brz_answer}
use Rattle.cm_chm.specs.Numbering.{AnswersNumbers}
use Rattle.cm_dump.specs.Spelling.{spelling_of}
use Rattle.cm_func.specs.Functions.{IsFunction}
use Rattle.cm_func.specs.declared.function.Func.{Func}
use Rattle.cm_func.specs.declared.function.Func.TheVariants as func
use Rattle.cm_io.specs.Files.{Files, file_at}
use Rattle.cm_io.specs.States.{Outside}
use Rattle.cm_keys.specs.Lines.{keys_in}
use Rattle.cm_tool.specs.Building.{building_of}
use Rattle.cm_tool_building.specs.Builds.{Builds}
use Rattle.cm_words.specs.declared.jobs.BuildJob.{BuildJob}

-- what the answers of a function to the keys that it was built over are: by CHM the keys' own numbers, by BDZ and BRZ all numbers
-- below that of the keys, by BDZ_PH distinct numbers below that of the cells; and it says how many keys there are
abbrev pub AnswersOf : List (ℕ × List ℕ) → Func → Type 0
AnswersOf keys (func.Chm f) = AnswersNumbers keys f × (f.keys ≡ length keys)
AnswersOf keys (func.Bdz f) = AnswersApart keys (bdz_answer f) (length keys) × (f.keys ≡ length keys)
AnswersOf keys (func.BdzPh f) = AnswersApart keys (λ key. Some (bdz_ph_answer f key)) (length f.cells) × (f.keys ≡ length keys)
AnswersOf keys (func.Brz f) = AnswersApart keys (brz_answer f) (length keys) × (f.keys ≡ length keys)

-- the function is one of the algorithm
abbrev pub IsBy : Algorithm → Func → Type 0
IsBy Chm (func.Chm f) = Unit {0}
IsBy Bdz (func.Bdz f) = Unit {0}
IsBy BdzPh (func.BdzPh f) = Unit {0}
IsBy Brz (func.Brz f) = Unit {0}
IsBy algorithm f = ⊥

-- the function file holds bytes that spell a function of the job's algorithm, with the answers that it is for
abbrev pub SavedNumbers : Files → Option Files → BuildJob → Type 0
SavedNumbers files new job = (bytes dump : List ℕ) × (f : Func) × (after : Files) × (file_at files job.keys ≡ Some bytes) × (new ≡ Some after) × (file_at after job.function ≡ Some dump) × (spelling_of dump ≡ Ok f) × IsFunction f × IsBy job.algorithm f × AnswersOf (keys_in job.first job.end bytes).keys f

-- A build does what the driver promises: it takes the first seed whose graph has an empty 2-core, by BRZ the first that splits the keys
-- and one for each bucket (`saved`, by `IsFileOf`), or shows that none of the list works (`refused`). After one with status 0 the
-- function file has the numbers of the keys.
pub record RunsBuild (job : BuildJob) (old new : Outside) (result : ℕ) : Type 0 where
  pub builds : Builds (building_of job) old new result
  pub numbers : result ≡ 0 → ForSome old.disk.files (λ files. SavedNumbers files new.disk.files job)
