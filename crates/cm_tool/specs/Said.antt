-- What `cmph` says on err: what its messages name, and what is said of a function that was built.
use Rattle.std.specs.Prelude.{ℕ, List, [], ◌∷◌, codes, decimal, if◌then◌else◌}
use Rattle.cm_algo_names.specs.Names.{name_of}
use Rattle.cm_algo_names.specs.declared.algorithm.Algorithm.{Algorithm}
use Rattle.cm_algo_names.specs.declared.algorithm.Algorithm.TheVariants.{Brz}
use Rattle.cm_tool_stops.specs.Named.{Named}
use Rattle.cm_io.specs.Writing.{joined}
use Rattle.cm_tool.specs.declared.built.Summary.{Summary}
use Rattle.cm_words.specs.declared.jobs.BuildJob.{BuildJob}

-- the name of the program, with which each message begins
abbrev pub cmph : List ℕ
cmph = codes "cmph"

-- what messages name: the program, and the paths of a keys file and of a function file
abbrev pub naming : List ℕ → List ℕ → Named
naming keys function = record { program = cmph; keys = keys; function = function }

-- what follows the message for arguments that are refused as a whole
abbrev pub hint : List ℕ
hint = codes "; cmph -h shows the usage"

-- what is counted beside the keys
abbrev pub counted : Algorithm → List ℕ
counted Brz = codes " buckets "
counted algorithm = codes " cells "

-- what is said of a function that was built, if that is asked for
abbrev pub built : BuildJob → Summary → List ℕ
built job s = joined (cmph ∷ codes ": " ∷ name_of job.algorithm ∷ codes " keys " ∷ decimal s.keys ∷ counted job.algorithm ∷ decimal s.cells ∷ codes " seed " ∷ decimal s.seed ∷ codes "\n" ∷ [])

abbrev pub built_message : BuildJob → Summary → List ℕ
built_message job s = if job.verbose then built job s else []
